-- The last network that has an address is the longest match of its bits.
use Rattle.std.proofs.Common.{◌≡◌, sym, ◌∙◌, ap, subst, arith, inl, inr, ℕ, zero, suc, ◌+◌, ◌-◌, ◌*◌, ◌/◌, ◌^◌, ◌<◌, ◌≤◌, Bool, List, ◌++◌, length, take}
use Rattle.std.proofs.Math.Seq.{take-append_seam}
use Rattle.std.proofs.lemmas.Bool.{cases_eq}
use Rattle.std.proofs.lemmas.List.{get_or_default}
use Rattle.std.proofs.lemmas.Nat.{pow_pos, div-add-mod', div-mul-add, shr_below, mod_below}
use Rattle.std.proofs.lemmas.Option.{slice_get-get_or, slice_get_within}
use Rattle.std.specs.List.{Contains}
use Rattle.cidr.specs.model.Bits.{bits, number}
use Rattle.cidr.specs.model.Network.{BeginsWith}
use Rattle.cidr.specs.laws.BitLaws.{length-bits, number-bits, bits-append}
use Rattle.cidr_table.specs.model.Prefixes.{IsLongestMatch}
use Rattle.cidr_lookup.specs.Keys.{AreAscendingNetworks, IsNetwork, prefix_bits, row_behind}
use Rattle.cidr_lookup.specs.Passing.{HasNumber, IsLastWithNumber, at, last_number_in}
use Rattle.cidr_lookup.proofs.Numbers.{nests}

module _ (w : ℕ) where
  -- the first bits of a number are those of what stands before the others
  first_bits : (l x : ℕ) → l ≤ w → take l (bits w x) ≡ bits l (x / 2 ^ (w - l))
  first_bits l x le =
      let k = w - l in
      let e : w ≡ l + k = omega arith in
      let front = bits l (x / 2 ^ k) in
      ap (λ n. take l (bits n x)) e ∙ (ap (take l) (bits-append l k x) ∙ (ap (λ n. take n (front ++ bits k x)) (sym (length-bits l (x / 2 ^ k))) ∙ take-append_seam front (bits k x)))

  pub length_network : (key : ℕ × ℕ) → key.1 ≤ w → length (prefix_bits w key) ≡ key.1
  length_network key le = ap length (first_bits key.1 key.0 le) ∙ length-bits key.1 (key.0 / 2 ^ (w - key.1))

  module _ (key : ℕ × ℕ) (good : IsNetwork w key) (address : ℕ) (within : address < 2 ^ w) where
    first : key.0 / 2 ^ (w - key.1) * 2 ^ (w - key.1) ≡ key.0
    first = omega (arith, div-add-mod' key.0 (2 ^ (w - key.1)), good.host)

    -- an address of the network begins with its bits
    pub begins : (key.0 ≤ address) → (address ≤ last_number_in w key) → BeginsWith (bits w address) (prefix_bits w key)
    begins low high =
        let s = 2 ^ (w - key.1) in
        let some : 0 < s = pow_pos (w - key.1) in
        let q = key.0 / s in
        let split : address ≡ q * s + (address - key.0) = omega (arith, first) in
        let same : address / s ≡ q = ap (λ x. x / s) split ∙ div-mul-add q s (address - key.0) (omega arith) in
        ap (λ n. take n (bits w address)) (length_network key good.fits)
        ∙ (first_bits key.1 address good.fits ∙ (ap (bits key.1) same ∙ sym (first_bits key.1 key.0 good.fits)))

    -- and what begins with them is one
    pub inside : BeginsWith (bits w address) (prefix_bits w key) → (key.0 ≤ address) × (address ≤ last_number_in w key)
    inside b =
        let s = 2 ^ (w - key.1) in
        let some : 0 < s = pow_pos (w - key.1) in
        let e : key.1 + (w - key.1) ≡ w = omega (arith, good.fits) in
        let fit_a : address < 2 ^ (key.1 + (w - key.1)) = rw e within in
        let fit_k : key.0 < 2 ^ (key.1 + (w - key.1)) = rw e good.within in
        let both : bits key.1 (address / s) ≡ bits key.1 (key.0 / s) =
        sym (first_bits key.1 address good.fits) ∙ (sym (ap (λ n. take n (bits w address)) (length_network key good.fits)) ∙ (b ∙ first_bits key.1 key.0 good.fits)) in
        let same : address / s ≡ key.0 / s =
        sym (number-bits key.1 (address / s) (shr_below address key.1 (w - key.1) fit_a)) ∙ (ap number both ∙ number-bits key.1 (key.0 / s) (shr_below key.0 key.1 (w - key.1) fit_k)) in
        let up : address / s * s ≡ key.0 / s * s = ap (λ x. x * s) same in
        (omega (arith, div-add-mod' address s, up, first), omega (arith, div-add-mod' address s, up, first, mod_below address s some))

module _ (w : ℕ) (networks : List (ℕ × ℕ)) (good : AreAscendingNetworks w networks) (address : ℕ) (within : address < 2 ^ w) where
  key_at : (key : ℕ × ℕ) (c : Contains networks key) → at w networks c.0 ≡ key
  key_at key c = get_or_default networks c.0 (0, 0) key c.1 ∙ c.2

  in_at : (key : ℕ × ℕ) (c : Contains networks key) → BeginsWith (bits w address) (prefix_bits w key) → HasNumber w networks (at w networks c.0) address
  in_at key c b = inside w (at w networks c.0) (good.each c.0 c.1) address within (subst (λ k. BeginsWith (bits w address) (prefix_bits w k)) (sym (key_at key c)) b)

  pub longest : (end : ℕ) → IsLastWithNumber w networks (length networks) address end → IsLongestMatch (prefix_bits w) (bits w address) networks (row_behind end)
  longest zero known = λ key c b. absurd (omega (arith, known.before c.0 c.1 (in_at key c b)))
  longest (suc i) known =
      let one : suc i - 1 ≡ i = omega arith in
      let h = known.here (omega arith) in
      let l : i < length networks = omega (arith, h.0) in
      let here : HasNumber w networks (at w networks i) address = subst (λ j. HasNumber w networks (at w networks j) address) one h.1 in
      record {
        key = at w networks i;
        here = slice_get-get_or networks i (0, 0) l;
        begins = begins w (at w networks i) (good.each i l) address within here.0 here.1;
        longest = λ other c b.
            let other_in = in_at other c b in
            let before : c.0 < suc i = known.before c.0 c.1 other_in in
            let size : length (prefix_bits w other) ≡ other.1 = length_network w other (subst (λ k. k.1 ≤ w) (key_at other c) (good.each c.0 c.1).fits) in
            let same : other.1 ≡ (at w networks c.0).1 = sym (ap (λ k. k.1) (key_at other c)) in
            let size_i : length (prefix_bits w (at w networks i)) ≡ (at w networks i).1 = length_network w (at w networks i) (good.each i l).fits in
            elim (cases_eq c.0 i) [
              | inl e ↦ omega (arith, size, same, size_i, ap (λ j. (at w networks j).1) e)
              | inr n ↦
                  let nested = nests w (at w networks c.0) (at w networks i) (good.each c.0 c.1) (good.each i l) (good.ascending c.0 i (omega arith) l) (omega (arith, here.0, other_in.1)) in
                  omega (arith, size, same, size_i, nested.0)
            ];
      }

-- a longest match is one of the networks
pub row_within : (w : ℕ) (networks : List (ℕ × ℕ)) (address : List Bool) (answer : ℕ)
    → IsLongestMatch (prefix_bits w) address networks (row_behind answer) → answer ≤ length networks
row_within w networks address zero m = omega arith
row_within w networks address (suc row) m = omega (arith, slice_get_within networks row m.key m.here)
