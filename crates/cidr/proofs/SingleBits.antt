-- Single bits of an address, by the number of the address, over any width.
use Rattle.std.proofs.Common.{◌≡◌, ◌≢◌, ℕ, zero, suc, ◌+◌, ◌-◌, ◌%◌, ◌^◌, ◌<◌, Bool, true, false, not, List, length, get_or, set, cond, ◌==◌, refl, sym, ap, ◌∙◌, arith, inl, inr}
use Rattle.std.specs.Int.{bit_at}
use Rattle.std.specs.Int.Bits.{bit_xor}
use Rattle.std.proofs.lemmas.Bool.{cases_eq}
use Rattle.std.proofs.lemmas.List.{ext_get_or, length-set, get_or-set_same, get_or-set_other}
use Rattle.std.proofs.lemmas.Nat.Bits.{bit_at_xor, bit_at-pow_same, bit_at-pow_other, bit_at-lt}
use Rattle.cidr.specs.model.Bits.{bits, number}
use Rattle.cidr.specs.model.BitString.{inverted}
use Rattle.cidr.specs.laws.BitLaws.{length-bits, bits-number}

-- bit i of the bits of a number
pub get_or-bits : (w n i : ℕ) → i < w → get_or (bits w n) i false ≡ (bit_at n (w - 1 - i) == 1)
unfolding bits
get_or-bits zero n i h = absurd (omega arith)
get_or-bits (suc w) n zero h =
    let e : suc w - 1 - 0 ≡ w = omega arith in
    ap (λ k. bit_at n k == 1) (sym e)
get_or-bits (suc w) n (suc i) h =
    let e : suc w - 1 - suc i ≡ w - 1 - i = omega arith in
    get_or-bits w n i (omega arith) ∙ ap (λ k. bit_at n k == 1) (sym e)

-- and of an address
pub get_or-number : (w i : ℕ) (a : List Bool) → i < w → length a ≡ w → get_or a i false ≡ (bit_at (number a) (w - 1 - i) == 1)
get_or-number w i a h e =
    ap (λ t. get_or t i false) (sym (bits-number a)) ∙ ap (λ m. get_or (bits m (number a)) i false) e ∙ get_or-bits w (number a) i h

-- a number that has one bit anew, and the others as the number of an address has them
pub bits-with_bit : (w i n : ℕ) (b : Bool) (a : List Bool) → i < w → length a ≡ w → bit_at n (w - 1 - i) ≡ cond b 1 0
    → ((k : ℕ) → k < w → k ≢ w - 1 - i → bit_at n k ≡ bit_at (number a) k) → bits w n ≡ set a i b
bits-with_bit w i n b a h e here others =
    ext_get_or false (bits w n) (set a i b) (length-bits w n ∙ sym e ∙ sym (length-set a i b)) (λ j l.
    let lj : j < w = rw (length-bits w n) at l in
    get_or-bits w n j lj ∙ elim (cases_eq j i) [
      | inl same ↦ ap (λ k. bit_at n (w - 1 - k) == 1) same ∙ ap (λ x. x == 1) here ∙ back b
          ∙ sym (ap (λ k. get_or (set a i b) k false) same ∙ get_or-set_same a i b false (rw e h))
      | inr other ↦ ap (λ x. x == 1) (others (w - 1 - j) (omega arith) (λ same. other (omega arith)))
          ∙ sym (get_or-number w j a lj e) ∙ sym (get_or-set_other a i j b false other)
    ])
  where
    back : (b : Bool) → (cond b 1 0 == 1) ≡ b
    back true = refl
    back false = refl

-- and one whose bit is inverted
pub bits-flipped : (w i : ℕ) (a : List Bool) → i < w → length a ≡ w → bits w (bit_xor (number a) (2 ^ (w - 1 - i))) ≡ set a i (inverted i a)
bits-flipped w i a h e =
    let n = number a in
    let k = w - 1 - i in
    let here = bit_at_xor n (2 ^ k) k ∙ ap (λ x. (bit_at n k + x) % 2) (bit_at-pow_same k) ∙ other_digit (bit_at n k) (bit_at-lt n k)
    ∙ ap (λ b. cond (not b) 1 0) (sym (get_or-number w i a h e)) in
    bits-with_bit w i (bit_xor n (2 ^ k)) (inverted i a) a h e here (λ j within apart.
    omega (arith, bit_at_xor n (2 ^ k) j, bit_at-pow_other k j apart, bit_at-lt n j))
  where
    other_digit : (d : ℕ) → d < 2 → (d + 1) % 2 ≡ cond (not (d == 1)) 1 0
    other_digit zero h = refl
    other_digit (suc zero) h = refl
    other_digit (suc (suc d)) h = absurd (omega arith)

pub ruleset single_bit_laws = (bits-with_bit, bits-flipped)
