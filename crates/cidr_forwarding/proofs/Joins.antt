-- What the parts of `join` append.
use Rattle.std.proofs.Common.{◌≡◌, ◌<◌, Bool, true, List, [], ◌∷◌, ◌++◌, length, Option, refl, sym, ap, ◌∙◌, arith}
use Rattle.std.proofs.lemmas.List.Elements.{filter-append}
use Rattle.std.specs.List.{filter}
use Rattle.cidr_forwarding.specs.Choices.{or_else, not_of, shared, united, joined_candidates, is_free}

or_else_some : {X : Type 0} (l other : List X) → 0 < length l → or_else l other ≡ l
or_else_some [] other h = absurd (omega arith)
or_else_some (x ∷ l) other h = refl

pub none_are_holes : {V : Type 0} → (l : List (Option V)) → filter (not_of (is_free true)) l ≡ []
none_are_holes [] = refl
none_are_holes (x ∷ l) = none_are_holes l

module _ {X : Type 0} (same : X → X → Bool) (free : X → Bool) (xs ys : List X) where
  pub both_filtered : {now low high : List X} → now ≡ [] → low ≡ now ++ filter (not_of free) xs → high ≡ low ++ filter (not_of free) ys → high ≡ filter (not_of free) (xs ++ ys)
  both_filtered n l h = h ∙ ap (λ k. k ++ filter (not_of free) ys) (l ∙ ap (λ k. k ++ filter (not_of free) xs) n) ∙ sym (filter-append (not_of free) xs ys)

  module _ (none : shared same xs ys ≡ []) where
    pub joined_holes : {now : List X} → now ≡ filter (not_of free) (xs ++ ys) → 0 < length now → now ≡ joined_candidates same free xs ys
    joined_holes {now = now} e some =
        e ∙ sym (or_else_some (filter (not_of free) (xs ++ ys)) (xs ++ ys) (omega (arith, some, ap length e))) ∙ ap (λ l. or_else l (united free xs ys)) (sym none)

    pub joined_all : filter (not_of free) (xs ++ ys) ≡ [] → {now low high : List X} → now ≡ [] → low ≡ now ++ xs → high ≡ low ++ ys → high ≡ joined_candidates same free xs ys
    joined_all e n l h =
        h ∙ ap (λ k. k ++ ys) (l ∙ ap (λ k. k ++ xs) n) ∙ ap (λ k. or_else k (xs ++ ys)) (sym e) ∙ ap (λ k. or_else k (united free xs ys)) (sym none)
