-- Walks in the order of addresses.
use Rattle.std.proofs.Common.{◌≡◌, ◌≢◌, ℕ, ◌+◌, ◌-◌, ◌^◌, ◌<◌, ◌≤◌, ◌↔◌, Bool, List, length, refl, sym, ap, ◌∙◌, arith, inl, inr, Some}
use Rattle.std.proofs.lemmas.Bool.{cases_lt}
use Rattle.std.proofs.lemmas.List.FromFn.{get_or-map-range_with_len}
use Rattle.std.proofs.lemmas.Option.{slice_get_within, get_or_from_slice_get}
use Rattle.std.specs.Cmp.{nat_cmp_is}
use Rattle.std.specs.List.{Contains, slice_get}
use Rattle.std.specs.Ordering.{nat_cmp}
use Rattle.std.specs.declared.cmp.Ordering.TheVariants.{Less, Equal, Greater}
use Rattle.cidr.specs.model.Bits.{bits, number}
use Rattle.cidr.specs.laws.BitLaws.{length-bits, number-bits, number-lt, bit_cmp-bits, bit_cmp-numbers}
use Rattle.cidr.specs.model.Walk.{walk_between, IsAscending, LiesBetween}
use Rattle.cidr.proofs.NetworkWalks.{between, stands_between}
use Rattle.cidr.proofs.WalkLaws.{length-walk_between}

-- the address at a place of a walk
at_place : (w : ℕ) (p q : List Bool) (i : ℕ) (a : List Bool) → slice_get (walk_between w p q) i ≡ Some a → (i < number q + 1 - number p) × (a ≡ bits w (number p + i))
at_place w p q i a e =
    let l = length-walk_between w p q in
    let in_walk = slice_get_within (walk_between w p q) i a e in
    let low : i < number q + 1 - number p = omega arith in
    let value = get_or-map-range_with_len (bits w) (number p) (number q + 1 - number p) i (number p + i) a low refl in
    (low, sym (get_or_from_slice_get (walk_between w p q) i a a e) ∙ value)

pub walk_ascends-law : (w : ℕ) (p q : List Bool) → length p ≡ w → length q ≡ w → IsAscending (walk_between w p q)
walk_ascends-law w p q e f i j a b h at_i at_j =
    let x = at_place w p q i a at_i in
    let y = at_place w p q j b at_j in
    let top : number q < 2 ^ w = rw f at (number-lt q) in
    let less = nat_cmp_is (number p + i) (number p + j) Less (omega arith) in
    rw (x.1, y.1) (bit_cmp-bits w (number p + i) (number p + j) (omega (arith, x.0)) (omega (arith, y.0)) ∙ sym less)

le_from_cmp : (m n : ℕ) → nat_cmp m n ≢ Greater → m ≤ n
le_from_cmp m n h = elim (cases_lt n m) [
  | inl more ↦ absurd (h (sym (nat_cmp_is m n Greater more)))
  | inr less ↦ less
]

cmp_from_le : (m n : ℕ) → m ≤ n → nat_cmp m n ≢ Greater
cmp_from_le m n h g = elim (cases_lt m n) [
  | inl less ↦ let bad : Less ≡ Greater = nat_cmp_is m n Less less ∙ g in cc
  | inr same ↦ let bad : Equal ≡ Greater = nat_cmp_is m n Equal (omega arith) ∙ g in cc
]

pub walk_between-exact : (w : ℕ) (p q a : List Bool) → length p ≡ w → length q ≡ w → Contains (walk_between w p q) a ↔ LiesBetween w p q a
walk_between-exact w p q a e f = (
  λ stands.
      let (n, same, low, high) = between w p q a stands in
      let top : number q < 2 ^ w = rw f at (number-lt q) in
      let width : length a ≡ w = ap length same ∙ length-bits w n in
      let value : number a ≡ n = ap number same ∙ number-bits w n (omega arith) in (
        width,
        rw (bit_cmp-numbers p a (e ∙ sym width)) (cmp_from_le (number p) (number a) (omega arith)),
        rw (bit_cmp-numbers a q (width ∙ sym f)) (cmp_from_le (number a) (number q) (omega arith)),
      ),
  λ (width, above, below).
      let low : number p ≤ number a = le_from_cmp (number p) (number a) (rw (bit_cmp-numbers p a (e ∙ sym width)) at above) in
      let high : number a ≤ number q = le_from_cmp (number a) (number q) (rw (bit_cmp-numbers a q (width ∙ sym f)) at below) in
      stands_between w p q a width low high,
)
