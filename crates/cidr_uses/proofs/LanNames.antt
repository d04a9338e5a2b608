-- One network is taken from those that are left, and its name goes behind the names so far.
use Rattle.std.proofs.Common.{◌≡◌, ℕ, Bool, List, [], ◌∷◌, ◌++◌, map, sym, ap, ◌∙◌, subst, append_assoc, Option, Some, MatchOption}
use Rattle.std.proofs.lemmas.List.{map-append}
use Rattle.std.proofs.lemmas.List.Elements.{Contains-append_right}
use Rattle.std.specs.List.{Contains}
use Rattle.cidr.specs.declared.family.Family.{Family}
use Rattle.cidr_ext.specs.texts.Reverse.{reverse_text}
use Rattle.cidr_ext.specs.texts.Zones.{names_of, EndAtLabel}

module _ (q : Family × List Bool) (now left : List (Family × List Bool)) (is : now ≡ q ∷ left) where
  pub rest_ends : EndAtLabel now → EndAtLabel left
  rest_ends ends r here = ends r (subst (λ l. Contains l r) (sym is) (Contains-append_right (q ∷ []) left r here))

  pub one_named : {A : Type 0} (bytes : A → List ℕ) (items : List A) (it : A) (all : List (List ℕ)) → bytes it ≡ reverse_text q.0 q.1
      → map bytes items ++ names_of now ≡ all → map bytes (items ++ it ∷ []) ++ names_of left ≡ all
  one_named bytes items it all name so_far =
      ap (λ names. names ++ names_of left) (map-append bytes items (it ∷ []))
      ∙ append_assoc (map bytes items) (bytes it ∷ []) (names_of left)
      ∙ ap (λ t. map bytes items ++ t ∷ names_of left) name
      ∙ sym (ap (λ networks. map bytes items ++ names_of networks) is) ∙ so_far

-- the name of a network that has one
pub name_is : {A : Type 0} (bytes : A → List ℕ) (t : List ℕ) (No Yes : Type 0) (r : Option A) (it : A) → r ≡ Some it
    → MatchOption r No (λ name. (bytes name ≡ t) × Yes) → bytes it ≡ t
name_is bytes t No Yes r it is found = (subst (λ r. MatchOption r No (λ name. (bytes name ≡ t) × Yes)) is found).0
