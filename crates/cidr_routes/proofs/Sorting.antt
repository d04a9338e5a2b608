-- Payloads in their order, each once.
use Rattle.std.proofs.Common.{◌≡◌, ◌≢◌, ◌↔◌, refl, sym, ap, ◌∙◌, subst, arith, inl, inr, ℕ, Bool, List, get_or}
use Rattle.std.proofs.lemmas.Bool.{cases_eq}
use Rattle.std.proofs.lemmas.Cmp.{nat_cmp_total, on_total, then_total, tied_itself}
use Rattle.std.proofs.lemmas.List.Kept.{Contains-dedup, Contains-from_dedup, IsStrictlySortedBy-dedup}
use Rattle.std.proofs.lemmas.List.Sorted.{Contains-permutation, IsPermutation-sym}
use Rattle.std.proofs.lemmas.Map.Keys.{Less-from_sorted}
use Rattle.std.proofs.lemmas.Option.{same_Some, slice_get_within, get_or_from_slice_get}
use Rattle.std.specs.Cmp.{IsEquivalence, IsTotalOrder, Equal-is}
use Rattle.std.specs.FinMap.{nat_cmp-IsAntisymmetric}
use Rattle.std.specs.List.{Contains, dedup, slice_get}
use Rattle.std.specs.List.Sorted.{IsPermutation, IsSorted, IsStrictlySortedBy}
use Rattle.std.specs.Ordering.{is_eq, nat_cmp, ordering_then}
use Rattle.std.specs.declared.cmp.Ordering.{Ordering}
use Rattle.std.specs.declared.cmp.Ordering.TheVariants.{Less, Equal, Greater}
use Rattle.cidr.specs.either.IpAddress.{TiesEqual}
use Rattle.cidr.specs.model.Bits.{bit_cmp}
use Rattle.cidr_table.proofs.Beginnings.{bits_same}
use Rattle.cidr_routes.specs.declared.origins.Payload.{Payload}
use Rattle.cidr_routes.specs.Links.{AreOrdered}
use Rattle.cidr_routes.specs.Origins.{payload_cmp}

-- a sorted list without repetitions has what the list had
module _ {X : Type 0} (R : X → X → Ordering) (o : IsTotalOrder R) (ties_equal : TiesEqual R)
    (E : X → X → Bool) (ties : (x y : X) → E x y ≡ is_eq (R x y)) (e : IsEquivalence E)
    (xs ys zs : List X) (p : IsPermutation xs ys) (s : IsSorted R ys) (is : zs ≡ dedup E ys) where
  pub distinct : IsStrictlySortedBy R zs
  distinct = subst (IsStrictlySortedBy R) (sym is) (IsStrictlySortedBy-dedup o ties ys s)

  pub each_kept : (x : X) → Contains zs x ↔ Contains xs x
  each_kept x = (
    λ c. Contains-permutation ys xs x (IsPermutation-sym xs ys p) (Contains-from_dedup E ys x (subst (λ l. Contains l x) is c)),
    λ c. subst (λ l. Contains l x) (sym is)
        (Contains-dedup e (λ a b t. (ties_equal a b).0 ((Equal-is (R a b)).0 (sym (ties a b) ∙ t))) ys x (Contains-permutation xs ys x p c)),
  )

then_equal : (r s : Ordering) → ordering_then r s ≡ Equal → (r ≡ Equal) × (s ≡ Equal)
then_equal Less s q = cc
then_equal Equal s q = (refl, q)
then_equal Greater s q = cc

abbrev of_parts : {C : Type 0} → C → ℕ → ℕ → Payload C
of_parts n m o = record { network = n; max_length = m; origin = o }

payload_is : {C : Type 0} (u v : Payload C) → u.network ≡ v.network → u.max_length ≡ v.max_length → u.origin ≡ v.origin → u ≡ v
payload_is u v n m o =
    ap (λ x. of_parts x u.max_length u.origin) n
    ∙ (ap (λ x. of_parts v.network x u.origin) m ∙ ap (λ x. of_parts v.network v.max_length x) o)

module _ {C : Type 0} (cmp : C → C → Ordering) (o : IsTotalOrder cmp) (exact : (x y : C) → cmp x y ≡ Equal → x ≡ y) where
  payloads_total : IsTotalOrder (payload_cmp cmp)
  payloads_total = then_total (on_total (λ (v : Payload C). v.network) o)
      (then_total (on_total (λ (v : Payload C). v.max_length) nat_cmp_total) (on_total (λ (v : Payload C). v.origin) nat_cmp_total))

  pub payloads_tie : TiesEqual (payload_cmp cmp)
  payloads_tie u v = (
    λ q.
        let n = then_equal (cmp u.network v.network) _ q in
        let m = then_equal (nat_cmp u.max_length v.max_length) _ n.1 in
        payload_is u v (exact u.network v.network n.0) (nat_cmp-IsAntisymmetric u.max_length v.max_length m.0)
        (nat_cmp-IsAntisymmetric u.origin v.origin m.1),
    λ e. subst (λ x. payload_cmp cmp u x ≡ Equal) e (tied_itself payloads_total u),
  )

then_first : (r s : Ordering) → ordering_then r s ≡ Less → r ≢ Greater
then_first Less s q e = cc
then_first Equal s q e = cc
then_first Greater s q e = cc

module _ {C : Type 0} (cmp : C → C → Ordering) (bits : C → List Bool) (ordered : (x y : C) → cmp x y ≡ bit_cmp (bits x) (bits y))
    (vrps : List (Payload C)) (sorted : IsStrictlySortedBy (payload_cmp cmp) vrps) where
  pub networks_ordered : AreOrdered bits vrps
  networks_ordered j k u v le su sv = elim (cases_eq j k) [
    | inl e ↦
        let same : u ≡ v = same_Some u v (sym su ∙ (ap (slice_get vrps) e ∙ sv)) in
        λ g. let f : Equal ≡ Greater = sym (bits_same (bits u.network)) ∙ (ap (λ (x : Payload C). bit_cmp (bits u.network) (bits x.network)) same ∙ g) in cc
    | inr ne ↦
        let less : payload_cmp cmp u v ≡ Less =
        subst (λ x. payload_cmp cmp x v ≡ Less) (get_or_from_slice_get vrps j u u su)
        (subst (λ y. payload_cmp cmp (get_or vrps j u) y ≡ Less) (get_or_from_slice_get vrps k v u sv)
        (Less-from_sorted (payload_cmp cmp) vrps j k u sorted (omega (arith, le, ne)) (slice_get_within vrps k v sv))) in
        λ g. then_first (cmp u.network v.network) _ less (ordered u.network v.network ∙ g)
  ]
