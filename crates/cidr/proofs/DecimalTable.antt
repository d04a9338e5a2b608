-- The table of the numbers below 256, held against std's decimal text of each of them.
use Rattle.std.proofs.Common.{◌≡◌, ℕ, suc, ◌+◌, ◌-◌, ◌*◌, ◌/◌, ◌%◌, ◌<◌, ◌≤◌, List, [], ◌∷◌, ◌++◌, take, drop, take-take, length, nat_lt, decimal, IsAscii, refl, sym, ap, ◌∙◌, arith, inl, inr, if◌then◌else◌}
use Rattle.std.proofs.lemmas.Bool.{cases_lt}
use Rattle.std.proofs.lemmas.Bool.Decides.{nat_tests}
use Rattle.cidr.specs.texts.Ipv4Text.{dot}
use Rattle.cidr.specs.laws.DecimalLaws.{pushed_one, pushed_two, pushed_three}
use Rattle.cidr.specs.declared.addr.decimal.TheConstants.{NUMBERS}
use Rattle.cidr.proofs.TextTables.{row_at, IsAscii-from_test}

abbrev three_digits : ℕ → List ℕ
three_digits n =
    if nat_lt n 10 then (48 + n) ∷ []
    else if nat_lt n 100 then (48 + n / 10) ∷ (48 + n % 10) ∷ []
    else (48 + n / 100) ∷ (48 + n / 10 % 10) ∷ (48 + n % 10) ∷ []

three_digits_are : (n : ℕ) → n < 256 → three_digits n ≡ decimal n
three_digits_are n h = elim (cases_lt n 10) [
  | inl one ↦ grind (arith, nat_tests, pushed_one n [] one)
  | inr more ↦ elim (cases_lt n 100) [
    | inl two ↦ grind (arith, nat_tests, pushed_two n [] more two)
    | inr three ↦ grind (arith, nat_tests, pushed_three n [] three h)
  ]
]

-- the first bytes of the number's row
pub number_in_table : (n at len : ℕ) → at ≡ n → n < 256 → len ≤ 4
    → take (at * 4 + len - at * 4) (drop (at * 4) NUMBERS.now) ≡ take len (decimal n ++ dot ∷ dot ∷ dot ∷ [])
number_in_table n at len e h few =
    let dots = dot ∷ dot ∷ dot ∷ [] in
    let width : at * 4 + len - at * 4 ≡ len = omega arith in
    let short : (t : List ℕ) → take len (take 4 t) ≡ take len t = λ t. take-take len 4 t few in
    let row = row_at 4 NUMBERS.now (λ k. take 4 (three_digits k ++ dots)) refl n h in
    rw (width, e)
    (sym (short (drop (n * 4) NUMBERS.now))
    ∙ ap (take len) (row ∙ ap (λ t. take 4 (t ++ dots)) (three_digits_are n h)) ∙ short _)

pub IsAscii-numbers : IsAscii NUMBERS.now
IsAscii-numbers = IsAscii-from_test NUMBERS.now refl

-- how many digits there are
pub digits_one : (n : ℕ) → n < 10 → length (decimal n) ≡ 1
digits_one n h = ap (λ t. length t) (sym (pushed_one n [] h))

pub digits_two : (n : ℕ) → 10 ≤ n → n < 100 → length (decimal n) ≡ 2
digits_two n h k = ap (λ t. length t) (sym (pushed_two n [] h k))

pub digits_three : (n : ℕ) → 100 ≤ n → n < 256 → length (decimal n) ≡ 3
digits_three n h k = ap (λ t. length t) (sym (pushed_three n [] h k))

pub ruleset digit_laws = (digits_one, digits_two, digits_three)

-- the number and the first of the dots behind it
up_to_dot : (t more : List ℕ) → take (suc (length t)) (t ++ dot ∷ more) ≡ t ++ dot ∷ []
up_to_dot [] more = refl
up_to_dot (x ∷ t) more = ap (λ r. x ∷ r) (up_to_dot t more)

pub number_and_dot : (t : List ℕ) → length t ≤ 3
    → take (length t + 1) (take 4 (t ++ dot ∷ dot ∷ dot ∷ [])) ≡ t ++ dot ∷ []
number_and_dot t few =
    let next : length t + 1 ≡ suc (length t) = omega arith in
    take-take (length t + 1) 4 _ (omega arith) ∙ ap (λ (k : ℕ). take k (t ++ dot ∷ dot ∷ dot ∷ [])) next
    ∙ up_to_dot t (dot ∷ dot ∷ [])

pub ruleset dot_laws = (number_and_dot)
