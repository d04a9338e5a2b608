-- The tables of hexadecimal digits, held against std's values and digits at each of the 256 bytes.
use Rattle.std.proofs.Common.{◌≡◌, ℕ, zero, suc, ◌+◌, ◌-◌, ◌*◌, ◌/◌, ◌%◌, ◌^◌, ◌<◌, ◌≤◌, [], ◌∷◌, take, drop, IsAscii, Bool, true, ◌&&◌, ◌==◌, get_or, refl, sym, ap, ◌∙◌, arith, inl, inr, if◌then◌else◌, nat_lt}
use Rattle.std.proofs.lemmas.Bool.{cases_eq, cases_lt, eqb-true}
use Rattle.std.proofs.lemmas.Bool.Decides.{nat_tests}
use Rattle.std.proofs.lemmas.List.{drop-drop, drop-take}
use Rattle.std.specs.Char.{digit_value, digit_char}
use Rattle.cidr.specs.internal.Reading.{IsDigitOrNo}
use Rattle.cidr.specs.declared.addr.hex.TheConstants.{DIGIT_VALUES, PAIRS}
use Rattle.cidr.proofs.TextTables.{both_of, row_at, IsAscii-from_test}

-- both are the same below n
same_below : (ℕ → ℕ) → (ℕ → ℕ) → ℕ → Bool
same_below f g zero = true
same_below f g (suc n) = (f n == g n) && same_below f g n

same_at : (f g : ℕ → ℕ) (n : ℕ) → same_below f g n ≡ true → (b : ℕ) → b < n → f b ≡ g b
unfolding same_below
same_at f g zero h b l = absurd (omega arith)
same_at f g (suc n) h b l =
    let both = both_of (f n == g n) (same_below f g n) h in
    elim (cases_eq b n) [ inl same ↦ rw same (eqb-true (f n) (g n) both.0) | inr other ↦ same_at f g n both.1 b (omega arith) ]

-- what stands in the table
abbrev value_of : ℕ → ℕ
value_of c = if nat_lt (digit_value c) 16 then digit_value c else 65536

stands : (b i : ℕ) → i ≡ b → b < 256 → get_or DIGIT_VALUES i 0 ≡ value_of b
unfolding same_below
stands b i e l = rw e (same_at (λ k. get_or DIGIT_VALUES k 0) value_of 256 refl b l)

digit_or_no : (v : ℕ) → IsDigitOrNo v (if nat_lt v 16 then v else 65536)
digit_or_no v = elim (cases_lt v 16) [
  | inl low ↦ inl (low, grind (arith, nat_tests))
  | inr high ↦ inr (high, grind (arith, nat_tests))
]

pub in_table : (b i : ℕ) → i ≡ b → b < 256 → IsDigitOrNo (digit_value b) (get_or DIGIT_VALUES i 0)
in_table b i e l = rw (stands b i e l) (digit_or_no (digit_value b))

-- ---- by the number whether there is a digit
pub is_digit : (v n : ℕ) → IsDigitOrNo v n → n < 16 ^ 4 → (v < 16) × (n ≡ v)
is_digit v n (inl digit) h = digit
is_digit v n (inr none) h = absurd (omega arith)

pub is_no_digit : (v n : ℕ) → IsDigitOrNo v n → 16 ≤ n → ¬ (v < 16)
is_no_digit v n (inl digit) h low = omega arith
is_no_digit v n (inr none) h low = omega arith

pub at_most_no : (v n : ℕ) → IsDigitOrNo v n → n ≤ 16 ^ 4
at_most_no v n (inl digit) = omega arith
at_most_no v n (inr none) = omega arith

digit_value_is : (v n : ℕ) → IsDigitOrNo v n → v < 16 → n ≡ v
digit_value_is v n (inl digit) h = digit.1
digit_value_is v n (inr none) h = absurd (omega arith)

-- four of them
abbrev AreDigits : ℕ → ℕ → ℕ → ℕ → Type 0
AreDigits p q r s = (p < 16) × ((q < 16) × ((r < 16) × ((s < 16) × Unit {0})))

module _ {p q r s w x y z : ℕ}
    (hw : IsDigitOrNo p w) (hx : IsDigitOrNo q x) (hy : IsDigitOrNo r y) (hz : IsDigitOrNo s z) where
  pub all_digits : ((w * 16 + x) * 16 + y) * 16 + z < 16 ^ 4
      → AreDigits p q r s × (((w * 16 + x) * 16 + y) * 16 + z ≡ (((0 + p) * 16 + q) * 16 + r) * 16 + s)
  all_digits h =
      let a = is_digit p w hw (omega arith) in
      let b = is_digit q x hx (omega arith) in
      let c = is_digit r y hy (omega arith) in
      let d = is_digit s z hz (omega arith) in
      ((a.0, (b.0, (c.0, (d.0, tt)))), omega arith)

  pub not_all_digits : 16 ^ 4 ≤ ((w * 16 + x) * 16 + y) * 16 + z → ¬ (AreDigits p q r s)
  not_all_digits h all =
      let a = digit_value_is p w hw all.0 in
      let b = digit_value_is q x hx all.1.0 in
      let c = digit_value_is r y hy all.1.1.0 in
      let d = digit_value_is s z hz all.1.1.1.0 in
      omega arith

-- ---- the two digits of a byte
-- the two digits of a byte stand in the table of pairs
pub pair_in_table : (n at : ℕ) → at ≡ n → n < 256
    → take (at * 2 + 2 - at * 2) (drop (at * 2) PAIRS.now) ≡ digit_char (n / 16) ∷ digit_char (n % 16) ∷ []
pair_in_table n at e h =
    let width : at * 2 + 2 - at * 2 ≡ 2 = omega arith in
    rw (width, e) (row_at 2 PAIRS.now (λ k. digit_char (k / 16) ∷ digit_char (k % 16) ∷ []) refl n h)

-- and so does a digit alone
pub digit_in_pairs : (n at : ℕ) → at ≡ n → n < 16 → take (at * 2 + 1 + 1 - (at * 2 + 1)) (drop (at * 2 + 1) PAIRS.now) ≡ digit_char n ∷ []
digit_in_pairs n at e h =
    let width : at * 2 + 1 + 1 - (at * 2 + 1) ≡ 1 = omega arith in
    let pair = row_at 2 PAIRS.now (λ k. digit_char (k / 16) ∷ digit_char (k % 16) ∷ []) refl n (omega arith) in
    let second : n % 16 ≡ n = omega arith in
    rw (width, e)
    (sym (ap (take 1) (drop-drop 1 (n * 2) PAIRS.now)) ∙ sym (drop-take 1 1 (drop (n * 2) PAIRS.now)) ∙ ap (drop 1) pair
    ∙ ap (λ d. digit_char d ∷ []) second)

pub IsAscii-pairs : IsAscii PAIRS.now
IsAscii-pairs = IsAscii-from_test PAIRS.now refl
