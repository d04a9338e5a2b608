-- Networks in any order become a set.
use Rattle.std.proofs.Common.{◌≡◌, ℕ, ◌≤◌, Bool, List, ◌++◌, length, take, map, sym, ◌∙◌, subst}
use Rattle.std.proofs.lemmas.List.{take-take, take-append-le}
use Rattle.std.proofs.lemmas.List.Kept.{Contains-dedup, Contains-from_dedup, IsStrictlySortedBy-dedup}
use Rattle.std.proofs.lemmas.List.Sorted.{Contains-permutation, IsPermutation-sym}
use Rattle.std.specs.Cmp.{IsEquivalence, IsTotalOrder, Equal-is}
use Rattle.std.specs.List.{Contains, dedup}
use Rattle.std.specs.List.Sorted.{IsPermutation, IsSorted, IsStrictlySortedBy}
use Rattle.std.specs.Ordering.{is_eq}
use Rattle.std.specs.declared.cmp.Ordering.{Ordering}
use Rattle.cidr.specs.model.Bits.{bit_cmp}
use Rattle.cidr_table.specs.model.Cover.{Covers}
use Rattle.cidr_table.proofs.Beginnings.{cmp_exact}
use Rattle.cidr_sets.specs.model.Sets.{IsSetOf}
use Rattle.cidr_sets.proofs.Addresses.{covers_more, set_alike}

-- the first of a list that was written to its front
pub front : {X : Type 0} (n m : ℕ) (ys zs : List X) → n ≤ m → n ≤ length ys → take n (take m (ys ++ zs)) ≡ take n ys
front n m ys zs le within = take-take n m (ys ++ zs) le ∙ take-append-le n ys zs within

module _ {C : Type 0} (f : C → List Bool) (cmp : C → C → Ordering) (o : IsTotalOrder cmp)
    (ordered : (x y : C) → cmp x y ≡ bit_cmp (f x) (f y)) (determined : (x y : C) → f x ≡ f y → x ≡ y)
    (E : C → C → Bool) (ties : (x y : C) → E x y ≡ is_eq (cmp x y)) (e : IsEquivalence E)
    (xs ys zs : List C) (p : IsPermutation xs ys) (s : IsSorted cmp ys) (is : zs ≡ dedup E ys) where
  pub distinct : IsStrictlySortedBy cmp zs
  distinct = subst (IsStrictlySortedBy cmp) (sym is) (IsStrictlySortedBy-dedup o ties ys s)

  kept : (x : C) → Contains xs x → Contains zs x
  kept x c = subst (λ l. Contains l x) (sym is) (Contains-dedup e
      (λ a b t. cmp_exact cmp f ordered determined a b ((Equal-is (cmp a b)).0 (sym (ties a b) ∙ t)))
      ys x (Contains-permutation xs ys x p c))

  from_kept : (x : C) → Contains zs x → Contains xs x
  from_kept x c = Contains-permutation ys xs x (IsPermutation-sym xs ys p)
      (Contains-from_dedup E ys x (subst (λ l. Contains l x) is c))

  pub whole : (out : List (List Bool)) → IsSetOf 129 (Covers (map f zs)) out → IsSetOf 129 (Covers (map f xs)) out
  whole out h = set_alike 129 (Covers (map f zs)) (Covers (map f xs)) out
      (λ a la. (covers_more f zs xs from_kept a, covers_more f xs zs kept a)) h
