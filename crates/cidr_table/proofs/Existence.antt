-- Every list of networks has a least cover.
use Rattle.std.proofs.Common.{◌≡◌, ◌⊎◌, ◌↔◌, ℕ, suc, zero, ◌+◌, ◌<◌, Bool, true, false, List, [], ◌∷◌, ◌++◌, length, refl, sym, subst, arith, inl, inr}
use Rattle.std.proofs.lemmas.Bool.{cases_lt}
use Rattle.std.proofs.lemmas.List.Elements.{Contains-append_cases, Contains-append_left, Contains-append_right}
use Rattle.std.specs.List.{Contains}
use Rattle.std.specs.List.Sorted.{IsStrictlySortedBy}
use Rattle.cidr.specs.model.Bits.{bit_cmp}
use Rattle.cidr.specs.model.Network.{BeginsWith}
use Rattle.cidr_table.specs.model.Cover.{IsFull, parent, IsMember, IsLeastCover}
use Rattle.cidr_table.proofs.Ascending.{sorted_append}
use Rattle.cidr_table.proofs.Halves.{begins_itself, begins_begins, same_length, length_half, half_begins, either_half, parent_half}
use Rattle.cidr_table.proofs.MapLaws.{contains_first, contains_cases, contains_nothing}
use Rattle.cidr_table.proofs.Order.{halves_less}
use Rattle.cidr_table.proofs.Members.{full_or_not, no_wider}

module _ (w : ℕ) (keys : List (List Bool)) where
  -- exactly the members that begin with p, ascending
  abbrev IsCoverBelow : List Bool → List (List Bool) → Type 0
  IsCoverBelow p cover =
      IsStrictlySortedBy bit_cmp cover × ((m : List Bool) → Contains cover m ↔ (IsMember w keys m × BeginsWith m p))

  alone : (p : List Bool) → IsMember w keys p → IsCoverBelow p (p ∷ [])
  unfolding IsStrictlySortedBy
  alone p h = (
    (tt, tt),
    λ m. (
      λ c. elim (contains_cases p m [] c) [
        | inl e ↦ subst (λ x. IsMember w keys x × BeginsWith x p) e (h, begins_itself p)
        | inr d ↦ absurd (contains_nothing m d)
      ],
      λ k. subst (Contains (p ∷ [])) (sym (same_length m p k.1 (no_wider w keys m p k.0 h.full k.1)))
          (contains_first p []),
    ),
  )

  none_below : (p : List Bool) → length p ≡ w → ¬ (IsFull w keys p) → IsCoverBelow p []
  unfolding IsStrictlySortedBy
  none_below p lp n = (
    tt,
    λ m. (
      λ c. absurd (contains_nothing m c),
      λ k. absurd (n (subst (IsFull w keys) (same_length m p k.1 (omega (arith, k.0.within))) k.0.full)),
    ),
  )

  both_below : (p : List Bool) (ms ns : List (List Bool)) → length p < w → ¬ (IsFull w keys p)
      → IsCoverBelow (p ++ false ∷ []) ms → IsCoverBelow (p ++ true ∷ []) ns → IsCoverBelow p (ms ++ ns)
  both_below p ms ns lt n h k = (
    sorted_append ms ns h.0 k.0 (λ x y c d. halves_less p x y ((h.1 x).0 c).1 ((k.1 y).0 d).1),
    λ m. (
      λ c. elim (Contains-append_cases ms ns m c) [
        | inl d ↦ let r = (h.1 m).0 d in (r.0, begins_begins m (p ++ false ∷ []) p r.1 (half_begins p false))
        | inr d ↦ let r = (k.1 m).0 d in (r.0, begins_begins m (p ++ true ∷ []) p r.1 (half_begins p true))
      ],
      λ r. elim (cases_lt (length p) (length m)) [
        | inl longer ↦ elim (either_half m p r.1 longer) [
          | inl b ↦ Contains-append_left ms ns m ((h.1 m).1 (r.0, b))
          | inr b ↦ Contains-append_right ms ns m ((k.1 m).1 (r.0, b))
        ]
        | inr le ↦ absurd (n (subst (IsFull w keys) (same_length m p r.1 le) r.0.full))
      ],
    ),
  )

  below : (n : ℕ) (p : List Bool) → length p + n ≡ w → (p ≡ []) ⊎ ¬ (IsFull w keys (parent p))
      → (cover : List (List Bool)) × IsCoverBelow p cover
  below zero p lp widest = elim (full_or_not w keys zero p lp) [
    | inl f ↦ (p ∷ [], alone p (record { within = omega arith; full = f; widest = widest }))
    | inr n ↦ ([], none_below p (omega arith) n)
  ]
  below (suc n) p lp widest = elim (full_or_not w keys (suc n) p lp) [
    | inl f ↦ (p ∷ [], alone p (record { within = omega arith; full = f; widest = widest }))
    | inr m ↦
        let low = below n (p ++ false ∷ []) (omega (arith, length_half p false))
        (inr (λ f. m (subst (IsFull w keys) (parent_half p false) f))) in
        let high = below n (p ++ true ∷ []) (omega (arith, length_half p true))
        (inr (λ f. m (subst (IsFull w keys) (parent_half p true) f))) in
        (low.0 ++ high.0, both_below p low.0 high.0 (omega arith) m low.1 high.1)
  ]

pub exists : (w : ℕ) (keys : List (List Bool)) → (cover : List (List Bool)) × IsLeastCover w keys cover
exists w keys =
    let c = below w keys w [] (omega arith) (inl refl) in
    (c.0, record { ascending = c.1.0; members = λ p. ((λ d. ((c.1.1 p).0 d).0), (λ h. (c.1.1 p).1 (h, refl))) })
