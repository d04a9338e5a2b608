-- Decimal numbers as strings, digit by digit.
use Rattle.std.proofs.Common.{◌≡◌, ℕ, ◌+◌, ◌/◌, ◌%◌, ◌<◌, ◌≤◌, List, [], ◌∷◌, ◌++◌, decimal, length, ◌^◌, sym, ap, ◌∙◌, arith, append_assoc}
use Rattle.std.proofs.lemmas.Fmt.{decimal_digit, decimal_step, length-decimal-le}

pub pushed_one : (n : ℕ) (old : List ℕ) → n < 10 → old ++ (48 + n) ∷ [] ≡ old ++ decimal n
pushed_one n old h = ap (λ t. old ++ t) (sym (decimal_digit n h))

pub pushed_two : (n : ℕ) (old : List ℕ) → 10 ≤ n → n < 100 → (old ++ (48 + n / 10) ∷ []) ++ (48 + n % 10) ∷ [] ≡ old ++ decimal n
pushed_two n old h k =
    let e : decimal n ≡ (48 + n / 10) ∷ (48 + n % 10) ∷ [] = decimal_step n h (omega arith) ∙ ap (λ t. t ++ (48 + n % 10) ∷ []) (decimal_digit (n / 10) (omega arith)) in
    append_assoc old ((48 + n / 10) ∷ []) ((48 + n % 10) ∷ []) ∙ ap (λ t. old ++ t) (sym e)

pub pushed_three : (n : ℕ) (old : List ℕ) → 100 ≤ n → n < 256 → ((old ++ (48 + n / 100) ∷ []) ++ (48 + n / 10 % 10) ∷ []) ++ (48 + n % 10) ∷ [] ≡ old ++ decimal n
pushed_three n old h k =
    let m = n / 10 in
    let q : m / 10 ≡ n / 100 = omega arith in
    let two = pushed_two m old (omega arith) (omega arith) in
    let front : (old ++ (48 + n / 100) ∷ []) ++ (48 + n / 10 % 10) ∷ [] ≡ old ++ decimal m = rw (← q) two in
    rw front (append_assoc old (decimal m) ((48 + n % 10) ∷ []) ∙ ap (λ t. old ++ t) (sym (decimal_step n (omega arith) (omega arith))))

pub ruleset decimal_laws = (pushed_one, pushed_two, pushed_three)

-- the last digit after those before it
pub pushed_only : (n : ℕ) → n < 10 → (48 + n % 10) ∷ [] ≡ decimal n
pushed_only n h = let same : n % 10 ≡ n = omega arith in ap (λ d. (48 + d) ∷ []) same ∙ sym (decimal_digit n h)

pub pushed_last : (n : ℕ) → 10 ≤ n → n < 2 ^ 64 → decimal (n / 10) ++ (48 + n % 10) ∷ [] ≡ decimal n
pushed_last n h k = sym (decimal_step n h k)

-- there are at most 20, and 19 before the last
pub digits_before_last : (n : ℕ) → n < 2 ^ 64 → length (decimal (n / 10)) ≤ 19
digits_before_last n h = length-decimal-le 19 (n / 10) (omega arith) (omega arith) (omega arith)

pub ruleset number_laws = (pushed_only, pushed_last, digits_before_last)
