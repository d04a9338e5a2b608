-- Exactly the networks of one length that begin with the bits of a network, and their order.
use Rattle.std.proofs.Common.{◌≡◌, ℕ, ◌+◌, ◌*◌, ◌-◌, ◌^◌, ◌<◌, ◌≤◌, Bool, List, ◌++◌, length, take, drop, refl, sym, ap, ap₂, ◌∙◌, arith, length-append, length-drop, take_at, take-append-drop, Some}
use Rattle.std.proofs.lemmas.List.FromFn.{length-map-range_with_len, get_or-map-range_with_len}
use Rattle.std.proofs.lemmas.Option.{get_or_from_slice_get, slice_get_within}
use Rattle.std.specs.Cmp.{nat_cmp_is}
use Rattle.std.specs.List.{Contains, slice_get}
use Rattle.std.specs.declared.cmp.Ordering.TheVariants.{Less}
use Rattle.cidr.specs.model.Bits.{bits, number}
use Rattle.cidr.specs.model.Network.{BeginsWith}
use Rattle.cidr.specs.laws.BitLaws.{length-bits, number-lt, bits-number, number-bits, number-append, bit_cmp-numbers}
use Rattle.cidr.specs.declared.family.Family.{Family}
use Rattle.cidr_ext.specs.model.Subnets.{AscendEachOnce, subnets_of, HasExactlySubnets}

module _ (f : Family) (p : List Bool) (n : ℕ) (longer : length p ≤ n) where
  at : ℕ → Family × List Bool
  at i = (f, p ++ bits (n - length p) i)

  size : length (subnets_of f p n) ≡ 2 ^ (n - length p)
  unfolding at
  size = length-map-range_with_len at 0 (2 ^ (n - length p))

  is_inside : (q : Family × List Bool) → Contains (subnets_of f p n) q → (q.0 ≡ f) × (length q.1 ≡ n) × BeginsWith q.1 p
  unfolding at
  is_inside q (i, within, here) =
      let below : i < 2 ^ (n - length p) = omega (arith, size) in
      let value : q ≡ at i = sym here ∙ get_or-map-range_with_len at 0 (2 ^ (n - length p)) i i q below (omega arith) in
      let bits_are : q.1 ≡ p ++ bits (n - length p) i = ap (λ x. x.1) value in (
        ap (λ x. x.0) value,
        omega (arith, ap length bits_are, length-append p (bits (n - length p) i), length-bits (n - length p) i),
        ap (take (length p)) bits_are ∙ take_at p (bits (n - length p) i) (length p) refl,
      )

  stands : (q : Family × List Bool) → (q.0 ≡ f) × (length q.1 ≡ n) × BeginsWith q.1 p → Contains (subnets_of f p n) q
  unfolding at
  stands q (family, long, begins) =
      let r = drop (length p) q.1 in
      let rest : length r ≡ n - length p = omega (arith, length-drop (length p) q.1) in
      let i = number r in
      let below : i < 2 ^ (n - length p) = rw (sym rest) (number-lt r) in
      let tail : bits (n - length p) i ≡ r = ap (λ k. bits k i) (sym rest) ∙ bits-number r in
      let whole : p ++ bits (n - length p) i ≡ q.1 = ap₂ (λ a b. a ++ b) (sym begins) tail ∙ take-append-drop (length p) q.1 in
      let value = get_or-map-range_with_len at 0 (2 ^ (n - length p)) i i q below (omega arith) in
      (i, omega (arith, size), value ∙ (λ j. (sym family j, whole j)))

  pub exactly : (inner : List (Family × List Bool)) → inner ≡ subnets_of f p n → HasExactlySubnets f p n inner
  exactly inner e q = rw e (is_inside q, stands q)

module _ (f : Family) (p : List Bool) (n : ℕ) where
  numbered : ℕ → Family × List Bool
  numbered i = (f, p ++ bits (n - length p) i)

  at_index : (i : ℕ) (q : Family × List Bool) → slice_get (subnets_of f p n) i ≡ Some q → (i < 2 ^ (n - length p)) × (q.1 ≡ p ++ bits (n - length p) i)
  unfolding numbered
  at_index i q e =
      let within = slice_get_within (subnets_of f p n) i q e in
      let below : i < 2 ^ (n - length p) = omega (arith, length-map-range_with_len numbered 0 (2 ^ (n - length p))) in
      let value = get_or-map-range_with_len numbered 0 (2 ^ (n - length p)) i i q below (omega arith) in
      (below, ap (λ x. x.1) (sym (get_or_from_slice_get (subnets_of f p n) i q q e) ∙ value))

  number_at : (i : ℕ) → i < 2 ^ (n - length p) → number (p ++ bits (n - length p) i) ≡ number p * 2 ^ (n - length p) + i
  number_at i below =
      let k = n - length p in
      rw (number-append p (bits k i), length-bits k i, number-bits k i below) refl

  pub ascending : AscendEachOnce (subnets_of f p n)
  ascending i j q r less at_i at_j =
      let k = n - length p in
      let x = at_index i q at_i in
      let y = at_index j r at_j in
      let long : length (p ++ bits k i) ≡ length (p ++ bits k j) =
      omega (arith, length-append p (bits k i), length-append p (bits k j), length-bits k i, length-bits k j) in
      let order = nat_cmp_is (number (p ++ bits k i)) (number (p ++ bits k j)) Less (omega (arith, number_at i x.0, number_at j y.0, less)) in
      rw (x.1, y.1) (bit_cmp-numbers (p ++ bits k i) (p ++ bits k j) long ∙ sym order)
