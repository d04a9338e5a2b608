-- Shifts of numbers of at most 128 bits.
use Rattle.std.proofs.Common.{◌≡◌, ◌↔◌, ℕ, sym, ap, ◌∙◌, ◌-◌, ◌+◌, ◌*◌, ◌/◌, ◌^◌, ◌<◌, ◌≤◌, arith, inl, inr, IsTrue, nat_eq, nat_le, eq-eqb}
use Rattle.std.proofs.Math.Nat.{div-eq_of_lt, lt-div-mul-add, mul-le-mul_right}
use Rattle.std.proofs.Math.Pow.{pow_mono}
use Rattle.std.specs.Int.Count.{count_leading_zeros, leading_unique}
use Rattle.std.proofs.lemmas.Bool.{cases_lt, eqb-true, le-leb}
use Rattle.std.proofs.lemmas.Nat.{pow_pos, pow-add, shr_high}

pub fits_wide : (n k : ℕ) → n < 2 ^ 128 → 128 ≤ k → IsTrue (nat_le 128 k) ↔ (n < 2 ^ k)
fits_wide n k h wide = let grown : 2 ^ 128 ≤ 2 ^ k = pow_mono wide in (λ t. omega arith, λ t. le-leb 128 k wide)

pub fits_narrow : (n k : ℕ) → IsTrue (nat_eq (n / 2 ^ k) 0) ↔ (n < 2 ^ k)
fits_narrow n k = (
  λ t.
      let none : n / 2 ^ k ≡ 0 = eqb-true (n / 2 ^ k) 0 t in
      let below : n < n / 2 ^ k * 2 ^ k + 2 ^ k = lt-div-mul-add (pow_pos k) in
      let bare : n < 0 * 2 ^ k + 2 ^ k = rw none at below in
      omega arith,
  λ h. eq-eqb (n / 2 ^ k) 0 (div-eq_of_lt h),
)

pub shift_fits : (n k : ℕ) → ¬ (n ≡ 0) → n * 2 ^ k < 2 ^ 128 → k < 128
shift_fits n k some h = elim (cases_lt k 128) [
  | inl below ↦ below
  | inr wide ↦
      let grown : 2 ^ 128 ≤ 2 ^ k = pow_mono wide in
      let one : 1 * 2 ^ k ≤ n * 2 ^ k = mul-le-mul_right (2 ^ k) (omega arith) in
      absurd (omega arith)
]

-- of a number all of whose bits are ones those in front
pub ones_in_front : (k : ℕ) → k ≤ 128 → (2 ^ 128 - 1) / 2 ^ (128 - k) ≡ 2 ^ k - 1
ones_in_front k within =
    let d = 128 - k in
    let sum : 128 ≡ k + d = omega arith in
    let whole : 2 ^ 128 ≡ 2 ^ k * 2 ^ d = ap (λ n. 2 ^ n) sum ∙ pow-add 2 k d in
    let one = pow_pos k in
    let less : (2 ^ k - 1) * 2 ^ d + 2 ^ d ≡ 2 ^ k * 2 ^ d =
    (let e : (2 ^ k - 1) + 1 ≡ 2 ^ k = omega arith in (let s : (2 ^ k - 1) * 2 ^ d + 2 ^ d ≡ ((2 ^ k - 1) + 1) * 2 ^ d = omega arith in s ∙ ap (λ x. x * 2 ^ d) e)) in
    let split : 2 ^ 128 - 1 ≡ (2 ^ k - 1) * 2 ^ d + (2 ^ d - 1) = omega (arith, pow_pos d) in
    ap (λ x. x / 2 ^ d) split ∙ shr_high (2 ^ k - 1) d (2 ^ d - 1) (omega (arith, pow_pos d))

-- ---- numbers all of whose bits are ones
module _ (n count ones : ℕ) (fits : n < 2 ^ 128) (is : count ≡ 128 - count_leading_zeros 128 n) (top : ones ≡ 2 ^ count - 1) where
  pub ones_counted : n ≡ ones → (count ≤ 128) × (n ≡ 2 ^ count - 1)
  ones_counted e = (omega arith, e ∙ top)

  pub not_ones : ¬ (n ≡ ones) → (k : ℕ) → k ≤ 128 → ¬ (n ≡ 2 ^ k - 1)
  not_ones other k within e =
      let one = pow_pos k in
      let leading : 128 - k ≡ count_leading_zeros 128 n = leading_unique 128 n (128 - k) k (omega arith) (omega arith) (omega arith) in
      let same : count ≡ k = omega arith in
      other (e ∙ sym (top ∙ ap (λ j. 2 ^ j - 1) same))
