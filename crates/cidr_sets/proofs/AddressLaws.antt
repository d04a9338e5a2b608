-- Networks have one ascending list of addresses.
use Rattle.std.proofs.Common.{◌≡◌, ℕ, Bool, List, [], ◌∷◌, refl, sym, ap₂, subst, inl, inr}
use Rattle.std.proofs.lemmas.Map.Keys.{sorted_tail}
use Rattle.std.specs.List.{Contains}
use Rattle.std.specs.List.Sorted.{IsStrictlySortedBy}
use Rattle.std.specs.declared.cmp.Ordering.TheVariants.{Less}
use Rattle.cidr.specs.model.Bits.{bit_cmp}
use Rattle.cidr_table.proofs.Ascending.{first_less}
use Rattle.cidr_table.proofs.MapLaws.{contains_first, contains_later, contains_cases, contains_nothing}
use Rattle.cidr_table.proofs.Order.{less_not_itself, not_both}
use Rattle.cidr_sets.specs.model.Counts.{AreAddresses}

-- these have no other elements than those
abbrev Within : List (List Bool) → List (List Bool) → Type 0
Within these those = (a : List Bool) → Contains these a → Contains those a

module _ (a : List Bool) (these : List (List Bool)) (s : IsStrictlySortedBy bit_cmp (a ∷ these)) where
  behind_first : (b : List Bool) → Contains (a ∷ these) b → ¬ (bit_cmp b a ≡ Less)
  behind_first b c h = elim (contains_cases a b these c) [
    | inl e ↦ less_not_itself a (subst (λ x. bit_cmp x a ≡ Less) (sym e) h)
    | inr d ↦ not_both a b (first_less a these s b d) h
  ]

  rest_within : (those : List (List Bool)) → Within (a ∷ these) (a ∷ those) → Within these those
  rest_within those h x c = elim (contains_cases a x those (h x (contains_later a x these c))) [
    | inl e ↦ absurd (less_not_itself a (subst (λ y. bit_cmp a y ≡ Less) (sym e) (first_less a these s x c)))
    | inr d ↦ d
  ]

same_elements : (these those : List (List Bool)) → IsStrictlySortedBy bit_cmp these → IsStrictlySortedBy bit_cmp those
    → Within these those → Within those these → these ≡ those
same_elements [] [] s t h k = refl
same_elements [] (b ∷ those) s t h k = absurd (contains_nothing b (k b (contains_first b those)))
same_elements (a ∷ these) [] s t h k = absurd (contains_nothing a (h a (contains_first a these)))
same_elements (a ∷ these) (b ∷ those) s t h k =
    let here = contains_first a these in
    let e : b ≡ a = elim (contains_cases b a those (h a here)) [
      | inl e ↦ e
      | inr d ↦ absurd (behind_first a these s b (k b (contains_first b those)) (first_less b those t a d))
    ] in
    ap₂ (λ x xs. x ∷ xs) (sym e) (same_elements these those (sorted_tail bit_cmp a these s) (sorted_tail bit_cmp b those t)
    (rest_within a these s those (λ x c. subst (λ y. Contains (y ∷ those) x) e (h x c)))
    (rest_within b those t these (λ x c. subst (λ y. Contains (y ∷ these) x) (sym e) (k x c))))

pub one_list_of : (w : ℕ) (networks these those : List (List Bool)) → AreAddresses w networks these → AreAddresses w networks those → these ≡ those
one_list_of w networks these those h k =
    same_elements these those h.ascending k.ascending
    (λ a c. (k.exact a).1 ((h.exact a).0 c))
    (λ a c. (h.exact a).1 ((k.exact a).0 c))
