-- What calls at both ends of the walk of a network return.
use Rattle.std.proofs.Common.{◌≡◌, ◌↔◌, ℕ, zero, suc, ◌<◌, ◌≤◌, Bool, List, [], ◌∷◌, length, map, Contains, Option, Some, None, slice_get, refl, sym, ap, ◌∙◌, subst, arith, inl, inr}
use Rattle.std.proofs.lemmas.Bool.{cases_order}
use Rattle.std.proofs.lemmas.List.{length-map}
use Rattle.std.proofs.lemmas.Simd.{map-map}
use Rattle.std.specs.declared.cmp.Ordering.TheVariants.{Less}
use Rattle.std.specs.Ordering.{ordering_reverse}
use Rattle.cidr.specs.model.Bits.{bit_cmp}
use Rattle.cidr.specs.laws.BitLaws.{bit_cmp_total}
use Rattle.cidr.specs.model.Network.{width_of, BeginsWith}
use Rattle.cidr.specs.model.Walk.{network_walk, network_hosts, addresses_of, answers_to, HasExactly, IsAscending}
use Rattle.cidr.specs.model.Calls.{HasOnce, GivesOnly, GivesOnce, GivesInward, GivesEach}
use Rattle.cidr.specs.declared.family.Family.{Family}
use Rattle.cidr.specs.declared.inet_iterator.driving.End.{End}
use Rattle.cidr_uses.specs.Headline.{Walks}
use Rattle.cidr_uses.proofs.Agreements.{contains_mapped}

some_is : {Y : Type 0} (y z : Y) → Some y ≡ Some z → y ≡ z
some_is y z h = cc

none_is_some : {X : Type 0} (x : X) → None ≡ Some x → ⊥
none_is_some x h = cc

-- slice_get of a mapped list
get_mapped : {X Y : Type 0} (g : X → Y) (xs : List X) (i : ℕ) (y : Y) → slice_get (map g xs) i ≡ Some y → (x : X) × (slice_get xs i ≡ Some x) × (y ≡ g x)
get_mapped g [] i y h = absurd (none_is_some y h)
get_mapped g (x ∷ xs) zero y h = (x, refl, sym (some_is (g x) y h))
get_mapped g (x ∷ xs) (suc i) y h = get_mapped g xs i y h

-- of an ascending list no item stands twice
not_less_itself : (a : List Bool) → bit_cmp a a ≡ Less → ⊥
not_less_itself a h = let back : Less ≡ ordering_reverse Less = sym h ∙ bit_cmp_total.antisymm a a ∙ ap ordering_reverse h in cc

stands_once : (walk : List (List Bool)) → IsAscending walk → (i j : ℕ) (a : List Bool) → slice_get walk i ≡ Some a → slice_get walk j ≡ Some a → i ≡ j
stands_once walk up i j a h g = elim (cases_order i j) [
  | inl e ↦ e
  | inr s ↦ elim s [
    | inl l ↦ absurd (not_less_itself a (up i j a a l h g))
    | inr l ↦ absurd (not_less_itself a (up j i a a l g h))
  ]
]

-- an element of a mapped list is the image of one
contains_image : {X Y : Type 0} (g : X → Y) (xs : List X) (y : Y) → Contains (map g xs) y → (x : X) × (y ≡ g x)
contains_image g [] y (k, within, at) = absurd (omega (arith, within))
contains_image g (x ∷ xs) y (zero, within, at) = (x, sym at)
contains_image g (x ∷ xs) y (suc k, within, at) = contains_image g xs y (k, omega (arith, within), at)

module _ (family : Family) (network : List Bool) (ends : List End) (answers : List (Option (Family × List Bool)))
    (is : answers ≡ answers_to (addresses_of (network_hosts family network)) ends)
    (exact : HasExactly family network (network_walk family network)) (up : IsAscending (network_walk family network)) where
  abbrev items : List (Family × List Bool)
  items = addresses_of (network_hosts family network)

  mapped : items ≡ map (λ a. (family, a)) (network_walk family network)
  mapped = map-map _ _ (network_walk family network)

  item_got : (i : ℕ) (a : Family × List Bool) → slice_get items i ≡ Some a → (slice_get (network_walk family network) i ≡ Some a.1) × (a.0 ≡ family)
  item_got i a h =
      let m = get_mapped (λ (x : List Bool). (family, x)) (network_walk family network) i a (ap (λ t. slice_get t i) (sym mapped) ∙ h) in
      (m.1 ∙ ap Some (sym (ap (λ (p : Family × List Bool). p.1) m.2)), ap (λ (p : Family × List Bool). p.0) m.2)

  apart : HasOnce items
  apart i j a h g = stands_once (network_walk family network) up i j a.1 (item_got i a h).0 (item_got j a g).0

  item_is : (a : List Bool) → Contains items (family, a) ↔ Contains (network_walk family network) a
  item_is a = rw mapped (contains_mapped (λ (x : List Bool). (family, x)) (λ x y e. ap (λ (p : Family × List Bool). p.1) e) (network_walk family network) a)

  family_is : (a : Family × List Bool) → Contains items a → (x : List Bool) × (a ≡ (family, x))
  family_is a c = contains_image (λ (x : List Bool). (family, x)) (network_walk family network) a (subst (λ t. Contains t a) mapped c)

  pub within : GivesOnly items (answers_to items ends) → (k : ℕ) (a : Family × List Bool) → slice_get answers k ≡ Some (Some a)
      → (a.0 ≡ family) × (length a.1 ≡ width_of family) × BeginsWith a.1 network
  within only k a h =
      let c = only k a (ap (λ t. slice_get t k) (sym is) ∙ h) in
      let f = family_is a c in
      let e = (exact f.0).0 ((item_is f.0).0 (subst (Contains items) f.1 c)) in
      rw f.1 (refl, e.0, e.1)

  length_is : length items ≡ length (network_walk family network)
  length_is = ap length mapped ∙ length-map (network_walk family network) (λ (x : List Bool). (family, x))

  pub all_come : GivesEach items answers → (a : List Bool) → length a ≡ width_of family → BeginsWith a network
      → (k : ℕ) × (slice_get answers k ≡ Some (Some (family, a)))
  all_come each a w b = each (family, a) ((item_is a).1 ((exact a).1 (w, b)))

  -- of two items at indexes of a walk the first has the lesser address
  ascends : (m n : ℕ) (x y : Family × List Bool) → slice_get items m ≡ Some x → slice_get items n ≡ Some y → m < n → bit_cmp x.1 y.1 ≡ Less
  ascends m n x y h g l = up m n x.1 y.1 l (item_got m x h).0 (item_got n y g).0

  pub walks : (HasOnce items → GivesOnce (answers_to items ends)) → (length items ≤ length ends → GivesEach items (answers_to items ends))
      → GivesInward items ends (answers_to items ends) → Walks family network ends answers
  walks once each inward = record {
    walk = (exact, up);
    given = is;
    once = (subst GivesOnce (sym is) (once apart), λ long. subst (GivesEach items) (sym is) (each (omega (arith, long, length_is))));
    ordered = λ j k x y l h g.
        let r = inward j k x y l (ap (λ t. slice_get t j) (sym is) ∙ h) (ap (λ t. slice_get t k) (sym is) ∙ g) in
        (λ e. ascends r.0 r.1 x y r.2 r.3 (r.4 e), λ e. ascends r.1 r.0 y x r.3 r.2 (r.5 e));
  }
