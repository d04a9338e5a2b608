-- The first element of which a closure gives something.
use Rattle.std.proofs.Common.{◌≡◌, ℕ, ◌+◌, ◌<◌, List, Option, Some, None, length, get_or, ap, ◌∙◌, subst, arith}
use denote.Param.Members.{Mut, Called}
use Rattle.std.specs.Bool.{IsTrue}
use Rattle.std.specs.Iterator.Runs.{Run, EveryRun, SomeRun, ItemsMapTo, CallKeepsClosure, AllItemsGive, IsFirstToGive}
use Rattle.std.specs.List.{AllWithin, HoldsAt}
use Rattle.std.specs.Option.{MatchOption, IsSomeAnd, IfSome, option_map}

module _ {A C : Type 0} (v : A → C) where
  told : (all : List C) (o : Option A) (P : A → Type 0) (Q : C → Type 0) (k : ℕ) (d : C) → ((x : A) → P x → Q (v x)) → IsSomeAnd o P
      → IfSome o (λ x. HoldsAt (λ y. v x ≡ y) all k) → Q (get_or all k d)
  told all None P Q k d by is at = absurd is
  told all (Some x) P Q k d by is at = subst Q (at d) (by x is)

  some : (o : Option A) (P : A → Type 0) (y : C) → IfSome o P → option_map v o ≡ Some y → IsSomeAnd o P
  some None P y h e = cc
  some (Some x) P y h e = h

module _ {S A B C F : Type 0} {steps : S → Option A → S → Type 0} {v : A → C} {g : Mut F (A × Unit {0}) (Option B)} {f : F} (rest : S → List C)
    (No : C → Type 0) (Yes : C → B → Type 0) (is_none : (x : A) → Called g f (x, tt) None f → No (v x))
    (is_some : (x : A) (y : B) → Called g f (x, tt) (Some y) f → Yes (v x) y) where
  -- what the closure gave of the items of a run
  found_in : (all : List C) (r : Option B) (p : Run steps) → ItemsMapTo p v all → CallKeepsClosure g f
      → MatchOption r (IsTrue p.whole × AllItemsGive p g f None)
      (λ y. (i : ℕ) × (i < p.len) × (p.len ≡ i + 1) × IsFirstToGive p g f (Some y) None i)
      → MatchOption r (AllWithin No all 0 (length all))
      (λ y. (i : ℕ) × (i < length all) × HoldsAt (λ x. Yes x y) all i × AllWithin No all 0 i)
  found_in all None p is keeps (done, none) = λ k d low within.
      told v all (p.at k) (λ x. Called g f (x, tt) None f) No k d is_none
      (some v (p.at k) (λ x. Called g f (x, tt) None f) (get_or all k d) (none keeps k) (is.2 k d (omega (arith, is.1 done, within)))) (is.3 k)
  found_in all (Some y) p is keeps (i, within, len, first) =
      let (hit, before) = first keeps in (
        i,
        omega (arith, is.0),
        λ d. told v all (p.at i) (λ x. Called g f (x, tt) (Some y) f) (λ x. Yes x y) i d (λ x h. is_some x y h) hit (is.3 i),
        λ k d low below. told v all (p.at k) (λ x. Called g f (x, tt) None f) No k d is_none (before k below) (is.3 k),
      )

  pub first_from_find_map : (all : List C) (s : S) (r : Option B) → EveryRun steps (λ p. ItemsMapTo p v (rest p.from)) → rest s ≡ all → CallKeepsClosure g f
      → SomeRun steps s (λ p. MatchOption r (IsTrue p.whole × AllItemsGive p g f None)
      (λ y. (i : ℕ) × (i < p.len) × (p.len ≡ i + 1) × IsFirstToGive p g f (Some y) None i))
      → MatchOption r (AllWithin No all 0 (length all))
      (λ y. (i : ℕ) × (i < length all) × HoldsAt (λ x. Yes x y) all i × AllWithin No all 0 i)
  first_from_find_map all s r items is keeps (p, from, given) =
      found_in all r p (subst (ItemsMapTo p v) (ap rest from ∙ is) (items p p.seen)) keeps given
