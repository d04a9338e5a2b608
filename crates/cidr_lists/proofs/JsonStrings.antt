-- Strings of JSON: what is written says the string, and a text says one at most.
use Rattle.std.proofs.Common.{◌≡◌, ◌≢◌, ◌⊎◌, refl, sym, ◌∙◌, ap, ap₂, subst, inl, inr, arith, ℕ, ◌<◌, ◌≤◌, ◌==◌, ◌||◌, ◌/◌, ◌%◌, Bool, false, List, [], ◌∷◌, ◌++◌, length, append_assoc, codes, map, take, drop, ne_eqb}
use Rattle.std.specs.Char.{digit_char, digit_value}
use Rattle.std.specs.List.{AllZip, flat_map}
use Rattle.std.specs.Str.Parse.{IsNumeral, digits_value}
use Rattle.std.proofs.lemmas.Bool.{cases_eq, cases_lt, le-ltb, lt-ltb}
use Rattle.std.proofs.lemmas.Str.{digit_value-digit_char}
use Rattle.std.proofs.Math.Seq.{drop-append_seam, take-append_seam}
use Rattle.cidr.specs.texts.Refusal.{Lacks}
use Rattle.cidr.proofs.Cuts.{Lacks-append, Lacks-cons}
use Rattle.cidr_lists.specs.Json.{IsStringText, Spells, backslash, quote, spelling, string_text}

-- ---- a byte as it is written
module _ (byte : ℕ) (small : byte < 32) where
  abbrev code_digits : List ℕ
  code_digits = 48 ∷ 48 ∷ digit_char (byte / 16) ∷ digit_char (byte % 16) ∷ []

  high : digit_value (digit_char (byte / 16)) ≡ byte / 16
  high = digit_value-digit_char (byte / 16) (omega (arith, small))

  low : digit_value (digit_char (byte % 16)) ≡ byte % 16
  low = digit_value-digit_char (byte % 16) (omega (arith, small))

  digits_say : digits_value 16 code_digits ≡ byte
  digits_say = omega (arith, small, high, low)

  are_digits : IsNumeral 16 code_digits
  are_digits = (omega arith, (omega arith, (omega arith, (omega (arith, small, high), (omega (arith, small, low), tt)))))

module _ (byte : ℕ) (no_quote : byte ≢ quote) (no_backslash : byte ≢ backslash) where
  no_sign : ((byte == quote) || (byte == backslash)) ≡ false
  no_sign = ap₂ (λ (a b : Bool). a || b) (ne_eqb byte quote no_quote) (ne_eqb byte backslash no_backslash)

  code_spelling : byte < 32 → spelling byte ≡ codes "\\u00" ++ digit_char (byte / 16) ∷ digit_char (byte % 16) ∷ []
  code_spelling small = rw no_sign (rw (lt-ltb byte 32 small) refl)

  own_spelling : 32 ≤ byte → spelling byte ≡ byte ∷ []
  own_spelling large = rw no_sign (rw (le-ltb byte 32 large) refl)

pub spelled : (byte : ℕ) → Spells (spelling byte) byte
spelled byte = elim (cases_eq byte quote) [
  | inl is ↦ subst (λ (k : ℕ). Spells (spelling k) k) (sym is) (inr (inl (refl, inl refl)))
  | inr no_quote ↦ elim (cases_eq byte backslash) [
    | inl is ↦ subst (λ (k : ℕ). Spells (spelling k) k) (sym is) (inr (inl (refl, inr refl)))
    | inr no_backslash ↦ elim (cases_lt byte 32) [
      | inl small ↦ inr (inr (code_digits byte small, code_spelling byte no_quote no_backslash small, refl, are_digits byte small, digits_say byte small, omega (arith, small)))
      | inr large ↦ inl (own_spelling byte no_quote no_backslash large, large, no_quote, no_backslash)
    ]
  ]
]

-- ---- a string as it is written
all_spelled : (value : List ℕ) → AllZip Spells (map spelling value) value
all_spelled [] = tt
all_spelled (byte ∷ value) = (spelled byte, all_spelled value)

same_parts : (value : List ℕ) → flat_map spelling value ≡ flat_map (λ (part : List ℕ). part) (map spelling value)
same_parts [] = refl
same_parts (byte ∷ value) = ap (λ (k : List ℕ). spelling byte ++ k) (same_parts value)

pub string_says : (value : List ℕ) → IsStringText (string_text value) value
string_says value = (map spelling value, same_parts value, all_spelled value)

-- no line feed is in it
lacks_digit : (d : ℕ) → d < 16 → digit_char d ≢ 10
lacks_digit d small is = absurd (omega (arith, small, digit_value-digit_char d (omega (arith, small)), ap digit_value is))

lacks_one : (x : ℕ) (xs : List ℕ) → x ≢ 10 → Lacks 10 xs → Lacks 10 (x ∷ xs)
lacks_one x xs = Lacks-cons 10 x xs

lacks_none : Lacks 10 []
lacks_none = λ i within. absurd (omega (arith, within))

lacks_spelling : (byte : ℕ) → Lacks 10 (spelling byte)
lacks_spelling byte = elim (cases_eq byte quote) [
  | inl is ↦ subst (λ (k : ℕ). Lacks 10 (spelling k)) (sym is) (lacks_one 92 (34 ∷ []) (omega arith) (lacks_one 34 [] (omega arith) lacks_none))
  | inr no_quote ↦ elim (cases_eq byte backslash) [
    | inl is ↦ subst (λ (k : ℕ). Lacks 10 (spelling k)) (sym is) (lacks_one 92 (92 ∷ []) (omega arith) (lacks_one 92 [] (omega arith) lacks_none))
    | inr no_backslash ↦ elim (cases_lt byte 32) [
      | inl small ↦
          let h = digit_char (byte / 16) in
          let l = digit_char (byte % 16) in
          subst (Lacks 10) (sym (code_spelling byte no_quote no_backslash small))
          (lacks_one 92 (117 ∷ 48 ∷ 48 ∷ h ∷ l ∷ []) (omega arith) (lacks_one 117 (48 ∷ 48 ∷ h ∷ l ∷ []) (omega arith)
          (lacks_one 48 (48 ∷ h ∷ l ∷ []) (omega arith) (lacks_one 48 (h ∷ l ∷ []) (omega arith)
          (lacks_one h (l ∷ []) (lacks_digit (byte / 16) (omega (arith, small))) (lacks_one l [] (lacks_digit (byte % 16) (omega (arith, small))) lacks_none))))))
      | inr large ↦ subst (Lacks 10) (sym (own_spelling byte no_quote no_backslash large)) (lacks_one byte [] (λ is. absurd (omega (arith, large, is))) lacks_none)
    ]
  ]
]

pub lacks_string : (value : List ℕ) → Lacks 10 (string_text value)
lacks_string [] = lacks_none
lacks_string (byte ∷ value) = Lacks-append 10 (spelling byte) (string_text value) (lacks_spelling byte) (lacks_string value)

-- ---- one value
same_head : (x y : ℕ) (xs ys : List ℕ) → x ∷ xs ≡ y ∷ ys → x ≡ y
same_head x y xs ys h = cc

same_tail : (x y : ℕ) (xs ys : List ℕ) → x ∷ xs ≡ y ∷ ys → xs ≡ ys
same_tail x y xs ys h = cc

-- of the same length, the fronts of a text are the same, and so are the rests
same_front : (p q rest behind : List ℕ) → length p ≡ length q → p ++ rest ≡ q ++ behind → p ≡ q
same_front p q rest behind long h =
    sym (take-append_seam p rest) ∙ (ap (take (length p)) h ∙ (ap (λ (k : ℕ). take k (q ++ behind)) long ∙ take-append_seam q behind))

same_rest : (p q rest behind : List ℕ) → length p ≡ length q → p ++ rest ≡ q ++ behind → rest ≡ behind
same_rest p q rest behind long h =
    sym (drop-append_seam p rest) ∙ (ap (drop (length p)) h ∙ (ap (λ (k : ℕ). drop k (q ++ behind)) long ∙ drop-append_seam q behind))

-- a byte that stands for itself
abbrev Own : List ℕ → ℕ → Type 0
Own part byte = (part ≡ byte ∷ []) × (32 ≤ byte) × (byte ≢ quote) × (byte ≢ backslash)

-- one behind a backslash
abbrev Signed : List ℕ → ℕ → Type 0
Signed part byte = (part ≡ backslash ∷ byte ∷ []) × ((byte ≡ quote) ⊎ (byte ≡ backslash))

-- one by its code
abbrev Coded : List ℕ → ℕ → Type 0
Coded part byte = (digits : List ℕ) × (part ≡ codes "\\u" ++ digits) × (length digits ≡ 4) × IsNumeral 16 digits × (digits_value 16 digits ≡ byte) × (byte < 128)

no_code : (byte : ℕ) → (byte ≡ quote) ⊎ (byte ≡ backslash) → byte ≢ 117
no_code byte sign is = elim sign [ inl a ↦ absurd (omega (arith, a, is)) | inr b ↦ absurd (omega (arith, b, is)) ]

-- two bytes that begin the same text are the same, and so is what stands behind them
module _ (a b : ℕ) (p q rest behind : List ℕ) (h : p ++ rest ≡ q ++ behind) where
  joined : (x y : List ℕ) → p ≡ x → q ≡ y → x ++ rest ≡ y ++ behind
  joined x y pe qe = ap (λ (k : List ℕ). k ++ rest) (sym pe) ∙ (h ∙ ap (λ (k : List ℕ). k ++ behind) qe)

  own_own : Own p a → Own q b → (a ≡ b) × (rest ≡ behind)
  own_own m n =
      let e : a ∷ rest ≡ b ∷ behind = joined (a ∷ []) (b ∷ []) m.0 n.0 in
      (same_head a b rest behind e, same_tail a b rest behind e)

  own_signed : Own p a → Signed q b → ⊥
  own_signed m n =
      let e : a ∷ rest ≡ backslash ∷ b ∷ behind = joined (a ∷ []) (backslash ∷ b ∷ []) m.0 n.0 in
      m.3 (same_head a backslash rest (b ∷ behind) e)

  own_coded : Own p a → Coded q b → ⊥
  own_coded m n =
      let e : a ∷ rest ≡ backslash ∷ 117 ∷ (n.0 ++ behind) = joined (a ∷ []) (codes "\\u" ++ n.0) m.0 n.1 in
      m.3 (same_head a backslash rest (117 ∷ (n.0 ++ behind)) e)

  signed_signed : Signed p a → Signed q b → (a ≡ b) × (rest ≡ behind)
  signed_signed m n =
      let e : backslash ∷ a ∷ rest ≡ backslash ∷ b ∷ behind = joined (backslash ∷ a ∷ []) (backslash ∷ b ∷ []) m.0 n.0 in
      let t = same_tail backslash backslash (a ∷ rest) (b ∷ behind) e in
      (same_head a b rest behind t, same_tail a b rest behind t)

  signed_coded : Signed p a → Coded q b → ⊥
  signed_coded m n =
      let e : backslash ∷ a ∷ rest ≡ backslash ∷ 117 ∷ (n.0 ++ behind) = joined (backslash ∷ a ∷ []) (codes "\\u" ++ n.0) m.0 n.1 in
      no_code a m.1 (same_head a 117 rest (n.0 ++ behind) (same_tail backslash backslash (a ∷ rest) (117 ∷ (n.0 ++ behind)) e))

  coded_coded : Coded p a → Coded q b → (a ≡ b) × (rest ≡ behind)
  coded_coded m n =
      let e : backslash ∷ 117 ∷ (m.0 ++ rest) ≡ backslash ∷ 117 ∷ (n.0 ++ behind) = joined (codes "\\u" ++ m.0) (codes "\\u" ++ n.0) m.1 n.1 in
      let t = same_tail 117 117 (m.0 ++ rest) (n.0 ++ behind) (same_tail backslash backslash (117 ∷ (m.0 ++ rest)) (117 ∷ (n.0 ++ behind)) e) in
      let long : length m.0 ≡ length n.0 = m.2 ∙ sym n.2 in
      (sym m.4 ∙ (ap (digits_value 16) (same_front m.0 n.0 rest behind long t) ∙ n.4), same_rest m.0 n.0 rest behind long t)

same_byte : (a b : ℕ) (p q rest behind : List ℕ) → p ++ rest ≡ q ++ behind → Spells p a → Spells q b → (a ≡ b) × (rest ≡ behind)
same_byte a b p q rest behind h (inl m) (inl n) = own_own a b p q rest behind h m n
same_byte a b p q rest behind h (inl m) (inr (inl n)) = absurd (own_signed a b p q rest behind h m n)
same_byte a b p q rest behind h (inl m) (inr (inr n)) = absurd (own_coded a b p q rest behind h m n)
same_byte a b p q rest behind h (inr (inl m)) (inl n) = absurd (own_signed b a q p behind rest (sym h) n m)
same_byte a b p q rest behind h (inr (inl m)) (inr (inl n)) = signed_signed a b p q rest behind h m n
same_byte a b p q rest behind h (inr (inl m)) (inr (inr n)) = absurd (signed_coded a b p q rest behind h m n)
same_byte a b p q rest behind h (inr (inr m)) (inl n) = absurd (own_coded b a q p behind rest (sym h) n m)
same_byte a b p q rest behind h (inr (inr m)) (inr (inl n)) = absurd (signed_coded b a q p behind rest (sym h) n m)
same_byte a b p q rest behind h (inr (inr m)) (inr (inr n)) = coded_coded a b p q rest behind h m n

-- no byte begins with the quote that ends a string
no_end : (a : ℕ) (p rest behind : List ℕ) → Spells p a → p ++ rest ≡ quote ∷ behind → ⊥
no_end a p rest behind (inl m) h =
    m.2 (same_head a quote rest behind (ap (λ (k : List ℕ). k ++ rest) (sym m.0) ∙ h))
no_end a p rest behind (inr (inl m)) h =
    absurd (omega (arith, same_head backslash quote (a ∷ rest) behind (ap (λ (k : List ℕ). k ++ rest) (sym m.0) ∙ h)))
no_end a p rest behind (inr (inr m)) h =
    absurd (omega (arith, same_head backslash quote (117 ∷ (m.0 ++ rest)) behind (ap (λ (k : List ℕ). k ++ rest) (sym m.1) ∙ h)))

abbrev joined_parts : List (List ℕ) → List ℕ
joined_parts parts = flat_map (λ (part : List ℕ). part) parts

same_values : (parts others : List (List ℕ)) (value another rest behind : List ℕ) → AllZip Spells parts value → AllZip Spells others another
    → joined_parts parts ++ quote ∷ rest ≡ joined_parts others ++ quote ∷ behind → value ≡ another
same_values [] [] [] [] rest behind says tells h = refl
same_values [] (q ∷ others) [] (b ∷ another) rest behind says tells h =
    absurd (no_end b q (joined_parts others ++ quote ∷ behind) rest tells.0 (sym (append_assoc q (joined_parts others) (quote ∷ behind)) ∙ sym h))
same_values (p ∷ parts) [] (a ∷ value) [] rest behind says tells h =
    absurd (no_end a p (joined_parts parts ++ quote ∷ rest) behind says.0 (sym (append_assoc p (joined_parts parts) (quote ∷ rest)) ∙ h))
same_values (p ∷ parts) (q ∷ others) (a ∷ value) (b ∷ another) rest behind says tells h =
    let e : p ++ (joined_parts parts ++ quote ∷ rest) ≡ q ++ (joined_parts others ++ quote ∷ behind) =
    sym (append_assoc p (joined_parts parts) (quote ∷ rest)) ∙ (h ∙ append_assoc q (joined_parts others) (quote ∷ behind)) in
    let (same, more) = same_byte a b p q (joined_parts parts ++ quote ∷ rest) (joined_parts others ++ quote ∷ behind) e says.0 tells.0 in
    ap₂ (λ (k : ℕ) (ks : List ℕ). k ∷ ks) same (same_values parts others value another rest behind says.1 tells.1 more)
same_values [] others (a ∷ value) another rest behind says tells h = absurd says
same_values (p ∷ parts) others [] another rest behind says tells h = absurd says
same_values [] [] [] (b ∷ another) rest behind says tells h = absurd tells
same_values [] (q ∷ others) [] [] rest behind says tells h = absurd tells
same_values (p ∷ parts) [] (a ∷ value) (b ∷ another) rest behind says tells h = absurd tells
same_values (p ∷ parts) (q ∷ others) (a ∷ value) [] rest behind says tells h = absurd tells

pub one_value : (text other rest behind value another : List ℕ) → IsStringText text value → IsStringText other another
    → text ++ quote ∷ rest ≡ other ++ quote ∷ behind → value ≡ another
one_value text other rest behind value another (parts, e, says) (others, f, tells) h =
    same_values parts others value another rest behind says tells
    (ap (λ (k : List ℕ). k ++ quote ∷ rest) (sym e) ∙ (h ∙ ap (λ (k : List ℕ). k ++ quote ∷ behind) f))
