-- The places of fields by their numbers, as they are read and as they are typed.
use Rattle.std.proofs.Common.{◌≡◌, ◌⊎◌, inl, inr, refl, sym, ◌∙◌, ap, ap₂, subst, arith, ℕ, zero, suc, ◌+◌, ◌^◌, ◌<◌, ◌≤◌, nat_lt, cond, Bool, true, false, if◌then◌else◌, ◌&&◌, List, [], ◌∷◌, ◌++◌, length, length-append, drop, take, get_or, decimal, Option, Some, None, option_and_then, Ok, MatchOption}
use Rattle.std.specs.Char.{digit_value}
use Rattle.std.specs.List.{after_first, before_first, list_all, position_or_len}
use Rattle.std.specs.Str.Parse.{AllDigits, IsNumeral, digits_value, without_leading_plus}
use Rattle.std.proofs.Math.Seq.{take-append_seam, take-length, get_or-append_seam, drop-append-add}
use Rattle.std.proofs.lemmas.Bool.{lt-ltb, ltb-true, ne_eqb}
use Rattle.std.proofs.lemmas.Fmt.{decimal_is_IsNumeral}
use Rattle.std.proofs.lemmas.List.{drop_all, get_or_append_left}
use Rattle.std.proofs.lemmas.List.Sums.{position_or_len_is}
use Rattle.cidr_lists.specs.declared.columns.Separator.{Separator}
use Rattle.cidr_lists.specs.declared.forms.RowLayout.TheVariants.{Columns}
use Rattle.netset_commands.specs.Arguments.{before, columns_by, digits_below, fields_by, is_comma, number_below, place_by}
use Rattle.netset_commands.specs.Picking.{IsFieldPlace}
use Rattle.netset_commands.specs.Single.{IsNumber}
use Rattle.netset_commands.specs.declared.commands.table.Verb.{Verb}
use Rattle.netset_commands.proofs.Parts.{and_first, and_second}

-- ---- digits
abbrev is_digit : ℕ → Bool
is_digit c = nat_lt (digit_value c) 10

digits_pass : (ds : List ℕ) → AllDigits 10 ds → list_all is_digit ds ≡ true
digits_pass [] all = refl
digits_pass (c ∷ cs) (here, others) = ap₂ (λ (a b : Bool). a && b) (lt-ltb (digit_value c) 10 here) (digits_pass cs others)

pass_digits : (ds : List ℕ) → list_all is_digit ds ≡ true → AllDigits 10 ds
pass_digits [] all = tt
pass_digits (c ∷ cs) all =
    (ltb-true (digit_value c) 10 (and_first (is_digit c) (list_all is_digit cs) all), pass_digits cs (and_second (is_digit c) (list_all is_digit cs) all))

numeral_of : (ds : List ℕ) → 0 < length ds → AllDigits 10 ds → IsNumeral 10 ds
numeral_of [] some all = absurd (omega (arith, some))
numeral_of (c ∷ cs) some all = (omega arith, all)

-- ---- a number that is read
if_all : {X : Type 0} (a b c : Bool) (x y : X) → a ≡ true → b ≡ true → c ≡ true → (if a && b && c then x else y) ≡ x
if_all a b c x y one two three = ap (λ (k : Bool). if k && b && c then x else y) one ∙ (ap (λ (k : Bool). if k && c then x else y) two ∙ ap (λ (k : Bool). if k then x else y) three)

if_any : {X : Type 0} (a b c : Bool) (x y : X) → (a ≡ true → b ≡ true → c ≡ true → ⊥) → (if a && b && c then x else y) ≡ y
if_any true true true x y none = absurd (none refl refl refl)
if_any true true false x y none = refl
if_any true false c x y none = refl
if_any false b c x y none = refl

below_some : (bound : ℕ) (ds : List ℕ) (n : ℕ) → IsNumeral 10 ds → n ≡ digits_value 10 ds → n < bound → digits_below bound ds ≡ Some n
below_some bound ds n numeral value small =
    if_all (nat_lt 0 (length ds)) (list_all is_digit ds) (nat_lt (digits_value 10 ds) bound) (Some (digits_value 10 ds)) None
    (lt-ltb 0 (length ds) (omega (arith, numeral.0))) (digits_pass ds numeral.1) (lt-ltb (digits_value 10 ds) bound (omega (arith, value, small)))
    ∙ ap (λ (k : ℕ). Some k) (sym value)

pub number_some : (bound : ℕ) (text : List ℕ) (n : ℕ) → IsNumber text n → n < bound → number_below bound text ≡ Some n
number_some bound text n (numeral, value) small = below_some bound (without_leading_plus text) n numeral value small

pub number_none : (bound : ℕ) (text : List ℕ) → ((n : ℕ) → IsNumber text n → bound ≤ n) → number_below bound text ≡ None
number_none bound text none =
    let ds = without_leading_plus text in
    if_any (nat_lt 0 (length ds)) (list_all is_digit ds) (nat_lt (digits_value 10 ds) bound) (Some (digits_value 10 ds)) None
    (λ some all small. let less = ltb-true (digits_value 10 ds) bound small in
    let large = none (digits_value 10 ds) (numeral_of ds (ltb-true 0 (length ds) some) (pass_digits ds all), refl) in
    omega (arith, less, large))

-- the number before one
before_more : (place : ℕ) → before (place + 1) ≡ Some place
before_more place = ap before {x = place + 1} {y = suc place} (omega arith)

no_more : (a b c : Bool) (n : ℕ) → (a ≡ true → b ≡ true → c ≡ true → n ≡ 0) → option_and_then before (if a && b && c then Some n else None) ≡ None
no_more true true true n is = ap before (is refl refl refl)
no_more true true false n is = refl
no_more true false c n is = refl
no_more false b c n is = refl

zero_of : (n : ℕ) → n < 2 ^ 64 → (n ≡ 0) ⊎ (2 ^ 64 ≤ n) → n ≡ 0
zero_of n less (inl nothing) = nothing
zero_of n less (inr large) = absurd (omega (arith, less, large))

pub place_told : (number : List ℕ) (place : ℕ) → IsFieldPlace number place → place_by number ≡ Some place
place_told number place (is, bound) = ap (option_and_then before) (number_some (2 ^ 64) number (place + 1) is bound) ∙ before_more place

pub place_read : (number : List ℕ) (r : Option ℕ) → MatchOption r ((n : ℕ) → IsNumber number n → (n ≡ 0) ⊎ (2 ^ 64 ≤ n)) (IsFieldPlace number) → r ≡ place_by number
place_read number (Some place) is = sym (place_told number place is)
place_read number None none =
    let ds = without_leading_plus number in
    sym (no_more (nat_lt 0 (length ds)) (list_all is_digit ds) (nat_lt (digits_value 10 ds) (2 ^ 64)) (digits_value 10 ds)
    (λ some all small. zero_of (digits_value 10 ds) (ltb-true (digits_value 10 ds) (2 ^ 64) small)
    (none (digits_value 10 ds) (numeral_of ds (ltb-true 0 (length ds) some) (pass_digits ds all), refl))))

-- ---- two numbers with a comma between them
-- no byte is one
module _ (numbers : List ℕ) (none : position_or_len is_comma numbers ≡ length numbers) where
  pub all_before : before_first is_comma numbers ≡ numbers
  all_before = ap (λ (k : ℕ). take k numbers) none ∙ take-length numbers

  pub none_after : after_first is_comma numbers ≡ []
  none_after = drop_all (position_or_len is_comma numbers + 1) numbers (omega (arith, none))

no_comma : (ds : List ℕ) (k : ℕ) → AllDigits 10 ds → k < length ds → is_comma (get_or ds k 0) ≡ false
no_comma [] k all within = absurd (omega (arith, within))
no_comma (c ∷ cs) zero (here, others) within =
    ne_eqb c 44 (λ e. let below : digit_value 44 < 10 = subst (λ (x : ℕ). digit_value x < 10) e here in omega (arith, below))
no_comma (c ∷ cs) (suc k) (here, others) within = no_comma cs k others (omega (arith, within))

module _ (front back : List ℕ) (digits : AllDigits 10 front) where
  abbrev joined : List ℕ
  joined = front ++ 44 ∷ back

  at_comma : position_or_len is_comma joined ≡ length front
  at_comma =
      position_or_len_is is_comma joined (length front) 0 (omega (arith, length-append front (44 ∷ back)))
      (λ k within. ap is_comma (get_or_append_left front (44 ∷ back) 0 k within) ∙ no_comma front k digits within)
      (λ within. ap is_comma (get_or-append_seam front 44 back 0))

  pub before_comma : before_first is_comma joined ≡ front
  before_comma = ap (λ (k : ℕ). take k joined) at_comma ∙ take-append_seam front (44 ∷ back)

  pub after_comma : after_first is_comma joined ≡ back
  after_comma = ap (λ (k : ℕ). drop (k + 1) joined) at_comma ∙ drop-append-add front (44 ∷ back) 1

-- ---- numbers as they are typed
no_plus : (ds : List ℕ) → IsNumeral 10 ds → without_leading_plus ds ≡ ds
no_plus [] numeral = refl
no_plus (c ∷ cs) numeral =
    ap (λ (b : Bool). drop (cond b 1 0) (c ∷ cs))
    (ne_eqb c 43 (λ e. let below : digit_value 43 < 10 = subst (λ (x : ℕ). digit_value x < 10) e numeral.1.0 in omega (arith, below)))

place_typed : (place : ℕ) → place + 1 < 2 ^ 64 → place_by (decimal (place + 1)) ≡ Some place
place_typed place bound =
    let (numeral, value) = decimal_is_IsNumeral (place + 1) bound in
    ap (λ (ds : List ℕ). option_and_then before (digits_below (2 ^ 64) ds)) (no_plus (decimal (place + 1)) numeral)
    ∙ (ap (option_and_then before) (below_some (2 ^ 64) (decimal (place + 1)) (place + 1) numeral (sym value) bound) ∙ before_more place)

pub fields_typed : (command : Verb) (separator : Separator) (network value : ℕ) → network + 1 < 2 ^ 64 → value + 1 < 2 ^ 64
    → fields_by command separator (Some (decimal (network + 1) ++ 44 ∷ decimal (value + 1))) ≡ Ok (Columns (record { separator = separator; network = network; value = value }))
fields_typed command separator network value first second =
    let digits = (decimal_is_IsNumeral (network + 1) first).0.1 in
    ap₂ (λ (a b : Option ℕ). columns_by command separator (decimal (network + 1) ++ 44 ∷ decimal (value + 1)) a b)
    (ap place_by (before_comma (decimal (network + 1)) (decimal (value + 1)) digits) ∙ place_typed network first)
    (ap place_by (after_comma (decimal (network + 1)) (decimal (value + 1)) digits) ∙ place_typed value second)
