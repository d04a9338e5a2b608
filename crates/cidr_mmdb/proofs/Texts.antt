-- Texts one behind the other: with what was written before in front, and what is left of them.
use Rattle.std.proofs.Common.{◌≡◌, refl, sym, ◌∙◌, ap, subst, arith, ℕ, zero, suc, ◌+◌, ◌-◌, ◌<◌, ◌≤◌, Bool, true, false, List, [], ◌++◌, length, Option, Some, None, Err, append_assoc}
use Rattle.std.specs.Prelude.{codes}
use Rattle.std.proofs.lemmas.List.{append-nil, length-append}
use Rattle.cidr_mmdb.specs.Fields.{◌>>=◌, field_at, name_at}
use Rattle.cidr_mmdb.specs.Json.{behind, closing, enclosed, item_at, json_at, listed, opening, payload_of, separator, string_text, text_with}
use Rattle.cidr_mmdb.specs.Writing.{Ends}
use Rattle.cidr_mmdb.specs.declared.kinds.Field.{Field}
use Rattle.cidr_mmdb.specs.declared.errors.JsonError.{JsonError}
use Rattle.cidr_mmdb.specs.declared.errors.JsonError.TheVariants.{Malformed, TooLong, NoMemory}

-- the text of what is read
abbrev text_in : Option (List ℕ × ℕ) → List ℕ
text_in None = []
text_in (Some x) = x.0

-- in front of what is in front
pub behind_twice : (front xs : List ℕ) (r : Option (List ℕ × ℕ)) → behind front (behind xs r) ≡ behind (front ++ xs) r
behind_twice front xs None = refl
behind_twice front xs (Some y) = ap (λ zs. Some (zs, y.1)) (sym (append_assoc front xs y.0))

-- no text of a list that is read is as short as the limit
abbrev pub IsLong : ℕ → Option (List ℕ × ℕ) → Type 0
IsLong limit read = (text : List ℕ) (end : ℕ) → read ≡ Some (text, end) → limit < length text

-- what comes behind makes no text shorter, and none where there was none
abbrev pub Lengthens : (List ℕ × ℕ → Option (List ℕ × ℕ)) → Type 0
Lengthens g = (x : List ℕ × ℕ) (text : List ℕ) (end : ℕ) → g x ≡ Some (text, end) → length x.0 ≤ length text

abbrev none : Option (List ℕ × ℕ)
none = None

abbrev some_of : List ℕ → ℕ → Option (List ℕ × ℕ)
some_of text end = Some (text, end)

none_some : (text : List ℕ) (end : ℕ) → none ≡ some_of text end → ⊥
none_some text end e = cc

longer : (front : List ℕ) (limit : ℕ) (x : List ℕ × ℕ) (y : Option (List ℕ × ℕ)) → limit < length (front ++ x.0)
    → ((text : List ℕ) (end : ℕ) → y ≡ Some (text, end) → length x.0 ≤ length text) → IsLong limit (behind front y)
longer front limit x None long more text end e = absurd (none_some text end e)
longer front limit x (Some y) long more text end e =
    let least : length x.0 ≤ length y.0 = more y.0 y.1 refl in
    let is : front ++ y.0 ≡ text = ap text_in e in
    omega (arith, length-append front x.0, length-append front y.0, ap length is)

long_then : (limit : ℕ) (front : List ℕ) (r : Option (List ℕ × ℕ)) (g : List ℕ × ℕ → Option (List ℕ × ℕ)) → Lengthens g → IsLong limit (behind front r)
    → IsLong limit (behind front (r >>= g))
long_then limit front None g more long = λ text end e. absurd (none_some text end e)
long_then limit front (Some x) g more long = longer front limit x (g x) (long (front ++ x.0) x.1 refl) (more x)

none_then : (front : List ℕ) (r : Option (List ℕ × ℕ)) (g : List ℕ × ℕ → Option (List ℕ × ℕ)) → behind front r ≡ None → behind front (r >>= g) ≡ None
none_then front None g e = refl
none_then front (Some x) g e = cc

-- an error stays one, whatever comes behind
pub err_then : (error : JsonError) (limit : ℕ) (a b front : List ℕ) (r : Option (List ℕ × ℕ)) (g : List ℕ × ℕ → Option (List ℕ × ℕ)) → Lengthens g
    → Ends (Err error) limit a (behind front r) → Ends (Err error) limit b (behind front (r >>= g))
err_then Malformed limit a b front r g more e = none_then front r g e
err_then TooLong limit a b front r g more e = long_then limit front r g more e
err_then NoMemory limit a b front r g more e = tt

lengthens_moved : (end : ℕ) → Lengthens (λ x. Some (x.0, end))
lengthens_moved end x text e h =
    let is : x.0 ≡ text = ap text_in h in
    omega (arith, ap length is)

pub err_moved : (error : JsonError) (limit : ℕ) (a b front : List ℕ) (r : Option (List ℕ × ℕ)) (end : ℕ)
    → Ends (Err error) limit a (behind front r) → Ends (Err error) limit b (behind front (r >>= λ x. Some (x.0, end)))
err_moved error limit a b front r end e = err_then error limit a b front r (λ x. Some (x.0, end)) (lengthens_moved end) e

-- ---- between brackets
lengthens_before : (back : List ℕ) → Lengthens (λ x. Some (x.0 ++ back, x.1))
lengthens_before back x text e h =
    let is : x.0 ++ back ≡ text = ap text_in h in
    omega (arith, length-append x.0 back, ap length is)

enclosed_is : (named : Bool) (front : List ℕ) (r : Option (List ℕ × ℕ))
    → behind front (enclosed named r) ≡ (behind (front ++ opening named) r >>= λ x. Some (x.0 ++ closing named, x.1))
enclosed_is named front None = refl
enclosed_is named front (Some x) =
    ap (λ zs. Some (zs, x.1)) (sym (append_assoc front (opening named ++ x.0) (closing named)) ∙ ap (λ zs. zs ++ closing named) (sym (append_assoc front (opening named) x.0)))

no_front : (r : Option (List ℕ × ℕ)) → behind [] r ≡ r
no_front None = refl
no_front (Some x) = refl

-- what stands inside ended
pub enclosed_ends : (named : Bool) (front inside : List ℕ) (end : ℕ) (r : Option (List ℕ × ℕ)) → behind (front ++ opening named) r ≡ Some (inside, end)
    → behind front (enclosed named r) ≡ Some (inside ++ closing named, end)
enclosed_ends named front inside end r e = enclosed_is named front r ∙ ap (λ s. s >>= λ x. Some (x.0 ++ closing named, x.1)) e

-- what stands inside has an error
pub enclosed_err : (error : JsonError) (limit : ℕ) (a b front : List ℕ) (named : Bool) (r : Option (List ℕ × ℕ)) → Ends (Err error) limit a (behind (front ++ opening named) r)
    → Ends (Err error) limit b (behind front (enclosed named r))
enclosed_err Malformed limit a b front named r e = enclosed_is named front r ∙ ap (λ s. s >>= λ x. Some (x.0 ++ closing named, x.1)) e
enclosed_err TooLong limit a b front named r e = λ text end h.
    long_then limit [] (behind (front ++ opening named) r) (λ x. Some (x.0 ++ closing named, x.1)) (lengthens_before (closing named))
    (subst (IsLong limit) (sym (no_front (behind (front ++ opening named) r))) e) text end
    (no_front (behind (front ++ opening named) r >>= λ x. Some (x.0 ++ closing named, x.1)) ∙ sym (enclosed_is named front r) ∙ h)
enclosed_err NoMemory limit a b front named r e = tt

-- no room for what is in front, or for what is behind
pub long_front : (limit : ℕ) (front xs : List ℕ) (r : Option (List ℕ × ℕ)) → limit < length front + length xs → IsLong limit (behind front (behind xs r))
long_front limit front xs None long text end e = absurd (none_some text end e)
long_front limit front xs (Some x) long text end e =
    let is : front ++ (xs ++ x.0) ≡ text = ap text_in e in
    omega (arith, length-append front (xs ++ x.0), length-append xs x.0, ap length is)

pub long_opening : (limit : ℕ) (named : Bool) (front : List ℕ) (r : Option (List ℕ × ℕ)) → limit < length front + length (opening named)
    → IsLong limit (behind front (enclosed named r))
long_opening limit named front None long text end e = absurd (none_some text end e)
long_opening limit named front (Some x) long text end e =
    let is : front ++ ((opening named ++ x.0) ++ closing named) ≡ text = ap text_in e in
    omega (arith, length-append front ((opening named ++ x.0) ++ closing named), length-append (opening named ++ x.0) (closing named), length-append (opening named) x.0, ap length is)

pub long_closing : (limit : ℕ) (named : Bool) (front inside : List ℕ) (at : ℕ) (r : Option (List ℕ × ℕ)) → behind (front ++ opening named) r ≡ Some (inside, at)
    → limit < length inside + length (closing named) → IsLong limit (behind front (enclosed named r))
long_closing limit named front inside at r e long text end h =
    let both : some_of (inside ++ closing named) at ≡ some_of text end = sym (enclosed_ends named front inside at r e) ∙ h in
    let is : inside ++ closing named ≡ text = ap text_in both in
    omega (arith, length-append inside (closing named), ap length is)

-- ---- a level
pub json_of : (section : List ℕ) (depth at : ℕ) (field : Field) → 0 < depth → field_at section at ≡ Some field
    → json_at section depth at ≡ text_with section (json_at section (depth - 1)) field field.kind
unfolding json_at
json_of section zero at field some e = absurd (omega arith)
json_of section (suc depth) at field some e =
    let k : depth ≡ suc depth - 1 = omega arith in
    ap (λ r. r >>= λ field. text_with section (json_at section depth) field field.kind) e ∙ ap (λ d. text_with section (json_at section d) field field.kind) k

-- ---- a name and a value
abbrev pub named_at : Field → ℕ → Option (Field × ℕ)
named_at string place = Some (string, place)

abbrev list_in : Option (List ℕ) → List ℕ
list_in None = []
list_in (Some xs) = xs

colon : (old written : List ℕ) (name : Option (List ℕ)) (r : Option (List ℕ × ℕ)) → (name >>= λ t. Some (old ++ t)) ≡ Some written
    → behind (written ++ codes ":") r ≡ behind old (name >>= λ text. behind (text ++ codes ":") r)
colon old written None r e = cc
colon old written (Some t) r e =
    let is : old ++ t ≡ written = ap list_in e in
    ap (λ x. behind (x ++ codes ":") r) (sym is) ∙ ap (λ x. behind x r) (append_assoc old t (codes ":")) ∙ sym (behind_twice old (t ++ codes ":") r)

pub member_is : (section : List ℕ) (depth at : ℕ) (string : Field) (place : ℕ) (old written : List ℕ) → name_at section at ≡ named_at string place
    → (string_text (payload_of section string) >>= λ t. Some (old ++ t)) ≡ Some written
    → behind (written ++ codes ":") (json_at section depth place) ≡ behind old (item_at section (json_at section depth) true at)
member_is section depth at string place old written e name =
    colon old written (string_text (payload_of section string)) (json_at section depth place) name
    ∙ ap (λ found. behind old (found >>= λ key. string_text (payload_of section key.0) >>= λ text. behind (text ++ codes ":") (json_at section depth key.1))) (sym e)

-- ---- items
abbrev pair_of : List ℕ → ℕ → List ℕ × ℕ
pair_of written end = (written, end)

more_of : (one : ℕ → Option (List ℕ × ℕ)) (front written : List ℕ) (n end : ℕ) (r : Option (List ℕ × ℕ)) → behind front r ≡ Some (written, end)
    → behind written (listed one false n end) ≡ behind front (r >>= λ x. behind x.0 (listed one false n x.1))
more_of one front written n end None e = cc
more_of one front written n end (Some x) e =
    let same : pair_of written end ≡ pair_of (front ++ x.0) x.1 = cc in
    ap (λ (p : List ℕ × ℕ). behind p.0 (listed one false n p.1)) same ∙ sym (behind_twice front x.0 (listed one false n x.1))

-- one more
pub listed_more : (one : ℕ → Option (List ℕ × ℕ)) (front written : List ℕ) (first : Bool) (n at end : ℕ) → 0 < n
    → behind front (behind (separator first) (one at)) ≡ Some (written, end) → behind written (listed one false (n - 1) end) ≡ behind front (listed one first n at)
listed_more one front written first zero at end some e = absurd (omega arith)
listed_more one front written first (suc n) at end some e =
    let k : suc n - 1 ≡ n = omega arith in
    ap (λ m. behind written (listed one false m end)) k ∙ more_of one front written n end (behind (separator first) (one at)) e

-- none is left
pub listed_none : (one : ℕ → Option (List ℕ × ℕ)) (front : List ℕ) (first : Bool) (n at : ℕ) → n ≡ 0 → behind front (listed one first n at) ≡ Some (front, at)
listed_none one front first zero at e = ap (λ zs. Some (zs, at)) (append-nil front)
listed_none one front first (suc n) at e = absurd (omega arith)

lengthens_listed : (one : ℕ → Option (List ℕ × ℕ)) (n : ℕ) → Lengthens (λ x. behind x.0 (listed one false n x.1))
lengthens_listed one n x text end h = lengthened x.0 (listed one false n x.1) text end h
  where
    lengthened : (front : List ℕ) (r : Option (List ℕ × ℕ)) (text : List ℕ) (end : ℕ) → behind front r ≡ Some (text, end) → length front ≤ length text
    lengthened front None text end h = absurd (none_some text end h)
    lengthened front (Some y) text end h =
        let is : front ++ y.0 ≡ text = ap text_in h in
        omega (arith, length-append front y.0, ap length is)

pub listed_err : (error : JsonError) (limit : ℕ) (a b front : List ℕ) (one : ℕ → Option (List ℕ × ℕ)) (first : Bool) (n at : ℕ) → 0 < n
    → Ends (Err error) limit a (behind front (behind (separator first) (one at))) → Ends (Err error) limit b (behind front (listed one first n at))
listed_err error limit a b front one first zero at some e = absurd (omega arith)
listed_err error limit a b front one first (suc n) at some e =
    err_then error limit a b front (behind (separator first) (one at)) (λ x. behind x.0 (listed one false n x.1)) (lengthens_listed one n) e
