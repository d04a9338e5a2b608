-- Where an element of a list stands, and what else the list contains.
use Rattle.std.proofs.Common.{◌≡◌, ◌⊎◌, List, [], ◌∷◌, ◌++◌, ap, inl, inr}
use Rattle.std.proofs.lemmas.List.Elements.{Contains-append_cases, Contains-append_left, Contains-append_right}
use Rattle.std.specs.List.{Contains}
use Rattle.cidr_table.proofs.MapLaws.{contains_cases, contains_nothing}

module _ {X : Type 0} where
  -- where an element stands
  pub split_at : (xs : List X) (x : X) → Contains xs x
      → (before : List X) × (after : List X) × (xs ≡ before ++ x ∷ after)
  split_at [] x c = absurd (contains_nothing x c)
  split_at (y ∷ xs) x c = elim (contains_cases y x xs c) [
    | inl e ↦ ([], xs, ap (λ z. z ∷ xs) e)
    | inr d ↦ let s = split_at xs x d in (y ∷ s.0, s.1, ap (λ ys. y ∷ ys) s.2)
  ]

  -- it is the one between two lists, or in one of these
  pub contains_between : (before after : List X) (x y : X) → Contains (before ++ x ∷ after) y
      → (x ≡ y) ⊎ Contains (before ++ after) y
  contains_between before after x y c = elim (Contains-append_cases before (x ∷ after) y c) [
    | inl d ↦ inr (Contains-append_left before after y d)
    | inr d ↦ elim (contains_cases x y after d) [ inl e ↦ inl e | inr f ↦ inr (Contains-append_right before after y f) ]
  ]
