-- The rules that decide the addresses of a rule that none reaches, and what holds of the network of each rule.
use Rattle.std.proofs.Common.{◌≡◌, ◌↔◌, ℕ, ◌+◌, ◌<◌, Bool, true, false, List, [], ◌∷◌, ◌++◌, length, get_or, map, take, refl, sym, ap, ◌∙◌, subst, arith, inl, inr, Some, None}
use Rattle.std.proofs.lemmas.Bool.{false≢true}
use Rattle.std.proofs.lemmas.List.{map-append, take_more}
use Rattle.std.proofs.lemmas.List.Elements.{Contains-push_cases}
use Rattle.std.proofs.lemmas.Option.{none-some, same_Some, slice_get-get_or, slice_get-map}
use Rattle.std.specs.Bool.{Decides, beq}
use Rattle.std.specs.List.{Contains, slice_get}
use Rattle.std.specs.Option.{option_map}
use Rattle.cidr.specs.model.Network.{BeginsWith}
use Rattle.cidr_sets.specs.model.FirstRules.{IsFirstRule, IsDeciding, IsShadowed}
use Rattle.cidr_uses.specs.AccessList.{AreDeciders}

pub first_contained : (xs : List ℕ) (i : ℕ) → Some i ≡ slice_get xs 0 → Contains xs i
first_contained [] i e = absurd (none-some i (sym e))
first_contained (x ∷ xs) i e = (0, omega arith, same_Some x i (sym e))

pub none_contained : (xs : List ℕ) → None ≡ slice_get xs 0 → (i : ℕ) → ¬ (Contains xs i)
none_contained [] e i c = omega (arith, c.1)
none_contained (x ∷ xs) e i c = none-some x e

module _ {R : Type 0} (f : R → List Bool) (xs : List R) (i : ℕ) (d : R) (here : i < length xs)
    (some : (networks : List (List Bool)) (i : ℕ) (p a : List Bool) → slice_get networks i ≡ Some p → BeginsWith a p
    → (j : ℕ) × IsFirstRule networks a j)
    (earlier : (w : ℕ) (networks : List (List Bool)) (i j : ℕ) (p : List Bool) → slice_get networks i ≡ Some p
    → IsShadowed w networks i → IsDeciding w networks p j → j < i) where
  abbrev network : List Bool
  network = f (get_or xs i d)

  there : slice_get (map f xs) i ≡ Some network
  there = slice_get-map f xs i ∙ ap (option_map f) (slice_get-get_or xs i d here)

  pub are_deciders : (out : List ℕ) → ((j : ℕ) → Contains out j ↔ IsDeciding 129 (map f xs) (f (get_or xs i d)) j)
      → IsShadowed 129 (map f xs) i → AreDeciders 129 (map f xs) i out
  are_deciders out h unreached = record {
    earlier = λ j c. earlier 129 (map f xs) i j network there unreached ((h j).0 c);
    all = λ p a e la b.
        let k = some (map f xs) i p a e b in
        (k.0, (h k.0).1 (a, la, subst (BeginsWith a) (same_Some p network (sym e ∙ there)) b, k.1), k.1);
  }

-- ---- what holds of the network of each rule
module _ {R : Type 0} (f : R → List Bool) (Holds : List Bool → Type 0) (xs : List R) (i : ℕ) (r : R) where
  pub one_more : i < length xs → r ≡ get_or xs i r → ((p : List Bool) → Contains (map f (take i xs)) p → Holds p) → Holds (f r)
      → (p : List Bool) → Contains (map f (take (i + 1) xs)) p → Holds p
  one_more here is old holds p c =
      let split : map f (take (i + 1) xs) ≡ map f (take i xs) ++ f r ∷ [] =
      ap (map f) (take_more xs i r here) ∙ map-append f (take i xs) (get_or xs i r ∷ []) ∙ ap (λ x. map f (take i xs) ++ f x ∷ []) (sym is) in
      elim (Contains-push_cases (map f (take i xs)) (f r) p (subst (λ l. Contains l p) split c)) [
        | inl d ↦ old p d
        | inr e ↦ subst Holds e holds
      ]

-- two answers to one question are the same
pub same_answer : (Holds : Type 0) (one other : Bool) → Decides one Holds → Decides other Holds → beq one other ≡ true
same_answer Holds true true h k = refl
same_answer Holds true false h k = absurd (false≢true (k.1 (h.0 refl)))
same_answer Holds false true h k = absurd (false≢true (h.1 (k.0 refl)))
same_answer Holds false false h k = refl
