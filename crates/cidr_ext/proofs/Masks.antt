-- Masks as numbers.
use Rattle.std.proofs.Common.{◌≡◌, ℕ, ◌+◌, ◌-◌, ◌*◌, ◌^◌, ◌<◌, ◌≤◌, Bool, true, false, List, ◌++◌, length, sym, ap, ap₂, ◌∙◌, subst, arith, inl, inr, Option, Some, None, MatchOption, length-append}
use Rattle.std.proofs.Math.Pow.{pow-lt}
use Rattle.std.proofs.lemmas.Bool.{cases_lt}
use Rattle.std.proofs.lemmas.List.{length-replicate}
use Rattle.std.proofs.lemmas.Nat.{pow_pos, pow-add}
use Rattle.cidr.specs.model.Bits.{bits, number}
use Rattle.cidr.specs.model.Network.{width_of, zeros, ones}
use Rattle.cidr.specs.declared.family.Family.{Family}
use Rattle.cidr.specs.laws.BitLaws.{number-bits, number-lt, number-append, bits-number, bits-ones}
use Rattle.cidr_ext.specs.model.Inside.{IsMaskOf, IsHostMaskOf}
use Rattle.cidr_ext.proofs.Indexes.{number-zeros, width_fits}

number-ones : (n : ℕ) → number (ones n) ≡ 2 ^ n - 1
number-ones n = ap number (sym (bits-ones n)) ∙ number-bits n (2 ^ n - 1) (omega (arith, pow_pos n))

same_numbers : (p q : List Bool) → length p ≡ length q → number p ≡ number q → p ≡ q
same_numbers p q l e = sym (bits-number p) ∙ ap₂ bits l e ∙ bits-number q

module _ (w n : ℕ) (within : n ≤ w) where
  powers : 2 ^ w ≡ 2 ^ n * 2 ^ (w - n)
  powers = let sum : w ≡ n + (w - n) = omega arith in ap (λ k. 2 ^ k) sum ∙ pow-add 2 n (w - n)

  pub number-mask : number (ones n ++ zeros (w - n)) + 2 ^ (w - n) ≡ 2 ^ w
  number-mask =
      let whole : number (ones n ++ zeros (w - n)) ≡ (2 ^ n - 1) * 2 ^ (w - n) + 0 =
      number-append (ones n) (zeros (w - n)) ∙ ap₂ (λ x y. x + y) (ap₂ (λ x k. x * 2 ^ k) (number-ones n) (length-replicate (w - n) false)) (number-zeros (w - n)) in
      let one = pow_pos n in
      let e : (2 ^ n - 1) + 1 ≡ 2 ^ n = omega arith in
      let up : (2 ^ n - 1) * 2 ^ (w - n) + 2 ^ (w - n) ≡ 2 ^ n * 2 ^ (w - n) =
      (let s : (2 ^ n - 1) * 2 ^ (w - n) + 2 ^ (w - n) ≡ ((2 ^ n - 1) + 1) * 2 ^ (w - n) = omega arith in s ∙ ap (λ x. x * 2 ^ (w - n)) e) in
      omega (arith, powers)

  pub length-mask : length (ones n ++ zeros (w - n)) ≡ w
  length-mask = omega (arith, length-append (ones n) (zeros (w - n)), length-replicate n true, length-replicate (w - n) false)

  pub number-host_mask : number (zeros n ++ ones (w - n)) ≡ 2 ^ (w - n) - 1
  number-host_mask =
      let whole : number (zeros n ++ ones (w - n)) ≡ 0 * 2 ^ (w - n) + (2 ^ (w - n) - 1) =
      number-append (zeros n) (ones (w - n)) ∙ ap₂ (λ x y. x + y) (ap₂ (λ x k. x * 2 ^ k) (number-zeros n) (length-replicate (w - n) true)) (number-ones (w - n)) in
      omega arith

  pub length-host_mask : length (zeros n ++ ones (w - n)) ≡ w
  length-host_mask = omega (arith, length-append (zeros n) (ones (w - n)), length-replicate n false, length-replicate (w - n) true)

not_wider : (w k c : ℕ) → c < 2 ^ w → c ≡ 2 ^ k - 1 → k ≤ w
not_wider w k c h e = elim (cases_lt w k) [
  | inr within ↦ within
  | inl wider ↦ let more : 2 ^ w < 2 ^ k = pow-lt wider in absurd (omega (arith, pow_pos w))
]

-- as a program reads an address, whose number is m
module _ (w m top : ℕ) (a : List Bool) (small : w ≤ 128) (size : length a ≡ w) (value : m ≡ number a) where
  below : number a < 2 ^ w
  below = rw (sym size) (number-lt a)

  pub top_fits : top ≡ 2 ^ w - 1 → m ≤ top
  top_fits e = omega (arith, below)

  pub no_mask : top ≡ 2 ^ w - 1 → ((k : ℕ) → k ≤ 128 → ¬ (top - m ≡ 2 ^ k - 1)) → (n : ℕ) → ¬ (IsMaskOf w n a)
  no_mask e none n (within, is) =
      let v : number a + 2 ^ (w - n) ≡ 2 ^ w = ap (λ x. number x + 2 ^ (w - n)) is ∙ number-mask w n within in
      none (w - n) (omega arith) (omega (arith, pow_pos (w - n)))

  pub mask_read : top ≡ 2 ^ w - 1 → (k : ℕ) → top - m ≡ 2 ^ k - 1 → (r : Option ℕ) → MatchOption r (w < k) (λ n. (k ≤ w) × (n ≡ w - k))
      → MatchOption r ((n : ℕ) → ¬ (IsMaskOf w n a)) (λ n. IsMaskOf w n a)
  mask_read e k ones_are None h = absurd (omega (arith, not_wider w k (top - m) (omega (arith, pow_pos w)) ones_are))
  mask_read e k ones_are (Some n) h =
      let within : n ≤ w = omega arith in
      let back : w - n ≡ k = omega (arith, h.0, h.1) in
      let size_k : number a + 2 ^ k ≡ 2 ^ w = omega (arith, below, pow_pos k) in
      let v : number a ≡ number (ones n ++ zeros (w - n)) = omega (arith, number-mask w n within, ap (λ j. 2 ^ j) back) in
      (within, same_numbers a (ones n ++ zeros (w - n)) (size ∙ sym (length-mask w n within)) v)

  pub no_host_mask : ((k : ℕ) → k ≤ 128 → ¬ (m ≡ 2 ^ k - 1)) → (n : ℕ) → ¬ (IsHostMaskOf w n a)
  no_host_mask none n (within, is) = none (w - n) (omega arith) (value ∙ ap number is ∙ number-host_mask w n within)

  pub host_mask_read : (k : ℕ) → m ≡ 2 ^ k - 1 → (r : Option ℕ) → MatchOption r (w < k) (λ n. (k ≤ w) × (n ≡ w - k))
      → MatchOption r ((n : ℕ) → ¬ (IsHostMaskOf w n a)) (λ n. IsHostMaskOf w n a)
  host_mask_read k ones_are None h = absurd (omega (arith, not_wider w k m (omega (arith, below)) ones_are))
  host_mask_read k ones_are (Some n) h =
      let within : n ≤ w = omega arith in
      let back : w - n ≡ k = omega (arith, h.0, h.1) in
      let v : number a ≡ number (zeros n ++ ones (w - n)) = sym value ∙ ones_are ∙ ap (λ j. 2 ^ j - 1) (sym back) ∙ sym (number-host_mask w n within) in
      (within, same_numbers a (zeros n ++ ones (w - n)) (size ∙ sym (length-host_mask w n within)) v)

  pub mask_told : top ≡ 2 ^ w - 1 → (r q : Option ℕ)
      → MatchOption r ((k : ℕ) → k ≤ 128 → ¬ (top - m ≡ 2 ^ k - 1)) (λ k. (k ≤ 128) × (top - m ≡ 2 ^ k - 1))
      → MatchOption r (q ≡ None) (λ k. MatchOption q (w < k) (λ n. (k ≤ w) × (n ≡ w - k)))
      → MatchOption q ((n : ℕ) → ¬ (IsMaskOf w n a)) (λ n. IsMaskOf w n a)
  mask_told e None q none h = rw h (no_mask e none)
  mask_told e (Some k) q ones_are h = mask_read e k ones_are.1 q h

  pub host_mask_told : (r q : Option ℕ)
      → MatchOption r ((k : ℕ) → k ≤ 128 → ¬ (m ≡ 2 ^ k - 1)) (λ k. (k ≤ 128) × (m ≡ 2 ^ k - 1))
      → MatchOption r (q ≡ None) (λ k. MatchOption q (w < k) (λ n. (k ≤ w) × (n ≡ w - k)))
      → MatchOption q ((n : ℕ) → ¬ (IsHostMaskOf w n a)) (λ n. IsHostMaskOf w n a)
  host_mask_told None q none h = rw h (no_host_mask none)
  host_mask_told (Some k) q ones_are h = host_mask_read k ones_are.1 q h

pub mask_found : (f : Family) (v m top : ℕ) (a : List Bool) → v ≡ width_of f → length a ≡ width_of f → m ≡ number a → top ≡ 2 ^ v - 1
    → (r q : Option ℕ) → MatchOption r ((k : ℕ) → k ≤ 128 → ¬ (top - m ≡ 2 ^ k - 1)) (λ k. (k ≤ 128) × (top - m ≡ 2 ^ k - 1))
    → MatchOption r (q ≡ None) (λ k. MatchOption q (v < k) (λ n. (k ≤ v) × (n ≡ v - k)))
    → MatchOption q ((n : ℕ) → ¬ (IsMaskOf (width_of f) n a)) (λ n. IsMaskOf (width_of f) n a)
mask_found f v m top a wide size value e r q counted left =
    subst (λ w. MatchOption q ((n : ℕ) → ¬ (IsMaskOf w n a)) (λ n. IsMaskOf w n a)) wide
    (mask_told v m top a (omega (arith, width_fits f)) (size ∙ sym wide) value e r q counted left)

pub host_mask_found : (f : Family) (v m : ℕ) (a : List Bool) → v ≡ width_of f → length a ≡ width_of f → m ≡ number a
    → (r q : Option ℕ) → MatchOption r ((k : ℕ) → k ≤ 128 → ¬ (m ≡ 2 ^ k - 1)) (λ k. (k ≤ 128) × (m ≡ 2 ^ k - 1))
    → MatchOption r (q ≡ None) (λ k. MatchOption q (v < k) (λ n. (k ≤ v) × (n ≡ v - k)))
    → MatchOption q ((n : ℕ) → ¬ (IsHostMaskOf (width_of f) n a)) (λ n. IsHostMaskOf (width_of f) n a)
host_mask_found f v m a wide size value r q counted left =
    subst (λ w. MatchOption q ((n : ℕ) → ¬ (IsHostMaskOf w n a)) (λ n. IsHostMaskOf w n a)) wide
    (host_mask_told v m 0 a (omega (arith, width_fits f)) (size ∙ sym wide) value r q counted left)
