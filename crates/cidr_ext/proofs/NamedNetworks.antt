-- The network or the address of a name, inside the network of all addresses of its family.
use Rattle.std.proofs.Common.{◌≡◌, ℕ, ◌-◌, ◌^◌, ◌<◌, ◌≤◌, Bool, List, [], ◌++◌, length, refl, ap, ap₂, ◌∙◌, arith, inl, inr, Option, Some, None, MatchOption}
use Rattle.cidr.specs.model.Bits.{bits, number}
use Rattle.cidr.specs.model.Network.{width_of}
use Rattle.cidr.specs.laws.BitLaws.{bits-number}
use Rattle.cidr.specs.either.ByFamily.{IsKnownBy}
use Rattle.cidr.specs.declared.family.Family.{Family}
use Rattle.cidr_ext.specs.model.Inside.{IsAddressAt}
use Rattle.cidr_ext.specs.texts.Reverse.{IsReverseName, IsReverseAddressName}
use Rattle.cidr_ext.specs.model.Subnets.{IsSubnetAt, NoSubnetAt}
use Rattle.cidr_ext.proofs.Labels.{whole_labels}

-- a value of the bits that were read: a network or an address
abbrev pub IsRead : {C : Type 0} (family_of : C → Family) (view : C → List Bool) → Option C → Family → ℕ → ℕ → Type 0
IsRead {C} family_of view r f n l = (d : C) × (r ≡ Some d) × (family_of d ≡ f) × (view d ≡ bits l n)

module _ {C : Type 0} (family_of : C → Family) (view : C → List Bool) where
  -- it is the only one
  pub read_is : IsKnownBy family_of view → (r : Option C) (f : Family) (n l : ℕ) → IsRead family_of view r f n l
      → (c : C) → ◌≡◌ {A = Option (Family × ℕ × ℕ)} (Some (f, n, l)) (Some (family_of c, number (view c), length (view c))) → r ≡ Some c
  read_is known r f n l (d, is, same, bits_are) c told =
      let triple : ◌≡◌ {A = Family × ℕ × ℕ} (f, n, l) (family_of c, number (view c), length (view c)) = cc in
      let family : f ≡ family_of c = ap (λ x. x.0) triple in
      let value : n ≡ number (view c) = ap (λ x. x.1) triple in
      let size : l ≡ length (view c) = ap (λ x. x.2) triple in
      is ∙ ap Some (known d c (same ∙ family) (bits_are ∙ ap₂ bits size value ∙ bits-number (view c)))

-- ---- as a program reaches it
module _ (f g : Family) (n l : ℕ) (p : List Bool) (of : g ≡ f) (nothing : p ≡ []) (within : l ≤ width_of f) (small : n < 2 ^ l) where
  none : length p ≡ 0
  none = ap length nothing

  pub subnet_read : {C : Type 0} (family_of : C → Family) (prefix : C → List Bool) (r : Option C)
      → MatchOption r (NoSubnetAt (width_of g) p l n) (λ inner. (family_of inner ≡ g) × IsSubnetAt p l n (prefix inner)) → IsRead family_of prefix r f n l
  subnet_read family_of prefix None h = elim h [
    | inl short ↦ absurd (omega (arith, none))
    | inr (inl wide) ↦ absurd (omega (arith, ap width_of of))
    | inr (inr many) ↦ let e : l - length p ≡ l = omega (arith, none) in absurd (omega (arith, ap (λ k. 2 ^ k) e))
  ]
  subnet_read family_of prefix (Some d) (same, (size, is)) =
      let e : l - length p ≡ l = omega (arith, none) in
      (d, refl, same ∙ of, is ∙ ap₂ (λ q k. q ++ bits k n) nothing e)

  pub address_read : {A : Type 0} (family_of : A → Family) (bits_of : A → List Bool) (r : Option A) → l ≡ width_of f
      → MatchOption r (2 ^ (width_of g - length p) ≤ n) (λ a. (family_of a ≡ g) × IsAddressAt (width_of g) p n (bits_of a)) → IsRead family_of bits_of r f n l
  address_read family_of bits_of None full h =
      let e : width_of g - length p ≡ l = omega (arith, none, ap width_of of) in absurd (omega (arith, ap (λ k. 2 ^ k) e))
  address_read family_of bits_of (Some a) full (same, (below, is)) =
      let e : width_of g - length p ≡ l = omega (arith, none, ap width_of of) in
      (a, refl, same ∙ of, is ∙ ap₂ (λ q k. q ++ bits k n) nothing e)

-- the name of an address is that of its network
pub network_named : (f : Family) (text : List ℕ) (a : List Bool) → IsReverseAddressName f text a → IsReverseName f text a
network_named f text a (full, named) = (omega arith, whole_labels f a full, named)
