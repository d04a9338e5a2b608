-- Rows of one network, by the next bit.
use Rattle.std.proofs.Common.{◌≡◌, ℕ, ◌-◌, ◌<◌, ◌≤◌, Bool, List, [], ◌∷◌, length, take, drop, Option, Some, slice_get, refl, sym, ap, ◌∙◌, subst, arith, length-drop}
use Rattle.std.specs.List.{AllByRecursion}
use Rattle.std.specs.List.Sorted.{IsStrictlySortedBy}
use Rattle.std.specs.Map.{keys_of}
use Rattle.std.specs.declared.cmp.Ordering.TheVariants.{Less}
use Rattle.cidr.specs.model.Bits.{bit_cmp}
use Rattle.cidr_forwarding.specs.Trees.{own_step, own, below_step, below, longer_step, longer}
use Rattle.cidr_forwarding.specs.Plans.{tails, IsNode, AreDeep, IsRest}
use Rattle.cidr_forwarding.proofs.Stretches.{whole_rest}

not_first : (p q : List Bool) → bit_cmp p q ≡ Less → q ≡ [] → ⊥
not_first [] [] e n = cc
not_first (b ∷ p) [] e n = cc
not_first p (b ∷ q) e n = cc

-- ---- lists of no more bits than depth
pub shallow : (depth : ℕ) (p : List Bool) → length p ≤ depth → drop depth p ≡ []
shallow depth p h = empty (drop depth p) (omega (arith, length-drop depth p))
  where
    empty : (l : List Bool) → length l ≤ 0 → l ≡ []
    empty [] k = refl
    empty (x ∷ l) k = absurd (omega arith)

not_shallow : (depth : ℕ) (p : List Bool) → depth < length p → drop depth p ≡ [] → ⊥
not_shallow depth p h e = omega (arith, length-drop depth p, ap length e)

module _ {C V : Type 0} (bits : C → List Bool) (depth : ℕ) where
  -- ---- the first row may have no more bits, and the others have more
  above_deep : (p : List Bool) (rows : List (C × V)) → AllByRecursion (λ q. bit_cmp p q ≡ Less) (keys_of (tails bits depth rows)) → AreDeep bits depth rows
  above_deep p [] h = tt
  above_deep p (r ∷ rows) h = (not_first p (drop depth (bits r.0)) h.0, above_deep p rows h.1)

  deep_own : (c : Option V) (rows : List (C × V)) → AreDeep bits depth rows → own c (tails bits depth rows) ≡ c
  deep_own c [] h = refl
  deep_own c (r ∷ rows) h = step (drop depth (bits r.0)) (Some r.1) (own c (tails bits depth rows)) h.0 ∙ deep_own c rows h.1
    where
      step : (p : List Bool) (x o : Option V) → (p ≡ [] → ⊥) → own_step p x o ≡ o
      step [] x o n = absurd (n refl)
      step (b ∷ p) x o n = refl

  first_deep : (r : C × V) (rows : List (C × V)) → IsNode bits depth (r ∷ rows) → AreDeep bits depth rows
  unfolding IsStrictlySortedBy
  first_deep r rows h = above_deep (drop depth (bits r.0)) rows h.ascending.0

  node_rest : (r : C × V) (rows : List (C × V)) → IsNode bits depth (r ∷ rows) → IsNode bits depth rows
  unfolding IsStrictlySortedBy
  node_rest r rows h = record { ascending = h.ascending.1; within = h.within.1 }

  pub own_first : (c : Option V) (r : C × V) (rows : List (C × V)) → IsNode bits depth (r ∷ rows) → length (bits r.0) ≤ depth
      → own c (tails bits depth (r ∷ rows)) ≡ Some r.1
  own_first c r rows h s = ap (λ p. own_step p (Some r.1) (own c (tails bits depth rows))) (shallow depth (bits r.0) s)

  pub all_deep : (r : C × V) (rows : List (C × V)) → IsNode bits depth (r ∷ rows) → depth < length (bits r.0) → AreDeep bits depth (r ∷ rows)
  all_deep r rows h s = (not_shallow depth (bits r.0) s, first_deep r rows h)

  pub own_none : (c : Option V) (rows : List (C × V)) → AreDeep bits depth rows → own c (tails bits depth rows) ≡ c
  own_none c rows h = deep_own c rows h

  pub rest_deep : (r : C × V) (rows : List (C × V)) → IsNode bits depth (r ∷ rows) → AreDeep bits depth rows
  rest_deep r rows h = first_deep r rows h

  pub rest_node : (r : C × V) (rows : List (C × V)) → IsNode bits depth (r ∷ rows) → IsNode bits depth rows
  rest_node r rows h = node_rest r rows h

  pub rest_halves : (r : C × V) (rows : List (C × V)) → length (bits r.0) ≤ depth → (b : Bool) → below b (tails bits depth (r ∷ rows)) ≡ below b (tails bits depth rows)
  rest_halves r rows s b = ap (λ p. below_step b p (Some r.1) (below b (tails bits depth rows))) (shallow depth (bits r.0) s)

  longer_one : (p : List Bool) (x : Option V) (rest : List (List Bool × Option V)) → (p ≡ [] → ⊥) → longer_step p x rest ≡ (p, x) ∷ rest
  longer_one [] x rest n = absurd (n refl)
  longer_one (b ∷ p) x rest n = refl

  longer_deep : (rows : List (C × V)) → AreDeep bits depth rows → longer (tails bits depth rows) ≡ tails bits depth rows
  longer_deep [] h = refl
  longer_deep (r ∷ rows) h = longer_one (drop depth (bits r.0)) (Some r.1) (longer (tails bits depth rows)) h.0 ∙ ap (λ l. (drop depth (bits r.0), Some r.1) ∷ l) (longer_deep rows h.1)

  longer_rest : (r : C × V) (rows : List (C × V)) → length (bits r.0) ≤ depth → AreDeep bits depth rows → longer (tails bits depth (r ∷ rows)) ≡ tails bits depth rows
  longer_rest r rows s h = ap (λ p. longer_step p (Some r.1) (longer (tails bits depth rows))) (shallow depth (bits r.0) s) ∙ longer_deep rows h

  -- ---- by the first row, as it is read
  pub rest_first : (c : Option V) (rows : List (C × V)) (r : C × V) → ◌≡◌ {A = Option (C × V)} (Some r) (slice_get rows 0) → IsNode bits depth rows → length (bits r.0) ≤ depth
      → IsRest bits depth c rows (Some r.1) (take (length rows - 1) (drop 1 rows))
  rest_first c [] r e node l = absurd (cc)
  rest_first c (s ∷ rows) r e node l =
      let f : s ≡ r = cc in
      let m : length (bits s.0) ≤ depth = subst (λ (x : C × V). length (bits x.0) ≤ depth) (sym f) l in
      let is : IsRest bits depth c (s ∷ rows) (Some r.1) rows = record {
        value_is = ap (λ (x : C × V). Some x.1) (sym f) ∙ sym (own_first c s rows node m);
        halves = rest_halves s rows m;
        longer_is = longer_rest s rows m (rest_deep s rows node);
        node = rest_node s rows node;
        deep = rest_deep s rows node;
      } in
      subst (IsRest bits depth c (s ∷ rows) (Some r.1)) (sym (whole_rest 1 (s ∷ rows))) is

  deep_from : (rows : List (C × V)) → IsNode bits depth rows → ((r : C × V) → ◌≡◌ {A = Option (C × V)} (Some r) (slice_get rows 0) → depth < length (bits r.0)) → AreDeep bits depth rows
  deep_from [] node far = tt
  deep_from (s ∷ rows) node far = all_deep s rows node (far s refl)

  pub rest_default : (c : Option V) (rows : List (C × V)) → IsNode bits depth rows → ((r : C × V) → ◌≡◌ {A = Option (C × V)} (Some r) (slice_get rows 0) → depth < length (bits r.0))
      → IsRest bits depth c rows c rows
  rest_default c rows node far =
      let deep = deep_from rows node far in
      record { value_is = sym (own_none c rows deep); halves = λ b. refl; longer_is = longer_deep rows deep; node = node; deep = deep }
