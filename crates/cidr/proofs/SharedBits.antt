-- Numbers whose first bits are the same, by the zeros that their difference leads with.
use Rattle.std.proofs.Common.{◌≡◌, ℕ, ◌-◌, ◌*◌, ◌/◌, ◌^◌, ◌<◌, ◌≤◌, sym, ap, ◌∙◌, arith, ◌↔◌, suc}
use Rattle.std.specs.Int.Bits.{bit_xor, xor_self, xor_add_and}
use Rattle.std.specs.Int.Count.{count_leading_zeros}
use Rattle.std.proofs.Math.Nat.{div-eq_of_lt, pow-suc, lt_of_not-le}
use Rattle.std.proofs.Math.Pow.{pow_mono}
use Rattle.std.proofs.lemmas.Nat.{pow_pos, xor_shr, xor_lt, and_le_l, and_le_r, leading_length, div-add-mod', mod_below}

-- two numbers with no difference are the same
xor_none : (a b : ℕ) → bit_xor a b ≡ 0 → a ≡ b
xor_none a b h = omega (arith, h, xor_add_and a b, and_le_l a b, and_le_r a b)

-- a number of w bits has k zeros in front where it is below 2 ^ (w - k)
zeros_in_front : (w k a : ℕ) → k ≤ w → a < 2 ^ w → (k ≤ count_leading_zeros w a) ↔ (a < 2 ^ (w - k))
zeros_in_front w k a h l =
    let (size, whole, below, above) = leading_length w a l in (
      λ zeros.
          let within : size ≤ w - k = omega arith in
          omega (arith, below, pow_mono within),
      λ small. at_least k (count_leading_zeros w a) (λ few.
          let more : suc (w - k) ≤ size = omega arith in
          omega (arith, above, pow-suc 2 (w - k), pow_mono more)),
    )
  where
    at_least : (i j : ℕ) → ¬ (j < i) → i ≤ j
    at_least i j h = omega (arith, lt_of_not-le h)

pub same_first_bits : (w k a b : ℕ) → k ≤ w → a < 2 ^ w → b < 2 ^ w → (k ≤ count_leading_zeros w (bit_xor a b)) ↔ (a / 2 ^ (w - k) ≡ b / 2 ^ (w - k))
same_first_bits w k a b h la lb =
    let d = zeros_in_front w k (bit_xor a b) h (xor_lt w a b la lb) in
    let m = w - k in (
      λ zeros. xor_none (a / 2 ^ m) (b / 2 ^ m) (sym (xor_shr a b m) ∙ div-eq_of_lt (d.0 zeros)),
      λ same. d.1 (small m (xor_shr a b m ∙ ap (λ x. bit_xor x (b / 2 ^ m)) same ∙ xor_self (b / 2 ^ m))),
    )
  where
    small : (m : ℕ) → bit_xor a b / 2 ^ m ≡ 0 → bit_xor a b < 2 ^ m
    small m z = omega (arith, div-add-mod' (bit_xor a b) (2 ^ m), mod_below (bit_xor a b) (2 ^ m) (pow_pos m), ap (λ q. q * 2 ^ m) z)
