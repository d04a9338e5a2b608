-- Rows at the place of a key, and what the table makes of them there.
use Rattle.std.proofs.Common.{◌≡◌, refl, sym, ◌∙◌, ap, arith, ℕ, Bool, true, false, cond, List, [], ◌∷◌, length, get_or, set, suc, zero, Some, None}
use Rattle.std.specs.List.{insert, remove, AllByRecursion}
use Rattle.std.specs.List.Sorted.{IsStrictlySortedBy}
use Rattle.std.specs.Map.{keys_of, lookup, remove_entry}
use Rattle.std.specs.BTreeMap.{insert_entry, is_at}
use Rattle.std.specs.Cmp.{IsTotalOrder}
use Rattle.std.specs.Ordering.{ordering_reverse, match_ordering}
use Rattle.std.specs.declared.cmp.Ordering.{Ordering}
use Rattle.std.specs.declared.cmp.Ordering.TheVariants.{Less, Equal, Greater}
use Rattle.std.proofs.lemmas.List.{length-map}
use Rattle.std.proofs.lemmas.Cmp.{tied_back, alike_right}
use Rattle.std.proofs.lemmas.Map.Keys.{Less-from_sorted}
use Rattle.cidr_table.specs.internal.Places.{IsAt, BelongsAt}
use Rattle.cidr_table.specs.internal.LentRows.{with_value_at}

pub sorted_none : {C : Type 0} (cmp : C → C → Ordering) → IsStrictlySortedBy cmp []
unfolding IsStrictlySortedBy
sorted_none cmp = tt

module _ {C : Type 0} (cmp : C → C → Ordering) (o : IsTotalOrder cmp) (k : C) where
  back : (x : C) (r : Ordering) → cmp x k ≡ r → cmp k x ≡ ordering_reverse r
  back x r h = o.antisymm k x ∙ ap ordering_reverse h

  all_after : (x y : C) → cmp x y ≡ Less → (ys : List C) → AllByRecursion (λ z. cmp y z ≡ Less) ys
      → AllByRecursion (λ z. cmp x z ≡ Less) ys
  all_after x y h [] a = tt
  all_after x y h (z ∷ ys) a = (o.trans x y z h a.0, all_after x y h ys a.1)

module _ {C V : Type 0} (cmp : C → C → Ordering) (o : IsTotalOrder cmp) (k : C) where
  at_tail : (e : C × V) (es : List (C × V)) (i : ℕ) → IsAt cmp (keys_of (e ∷ es)) k (length (e ∷ es)) (suc i)
      → IsAt cmp (keys_of es) k (length es) i
  at_tail e es i h = record { within = omega (arith, h.within); equal = h.equal }

  gap_tail : (e : C × V) (es : List (C × V)) (i : ℕ) → BelongsAt cmp (keys_of (e ∷ es)) k (length (e ∷ es)) (suc i)
      → BelongsAt cmp (keys_of es) k (length es) i
  gap_tail e es i h = record { within = omega (arith, h.within); before = λ j l. h.before (suc j) (omega arith); behind = λ j l m. h.behind (suc j) (omega arith) (omega arith) }

  gap_first : (e : C × V) (es : List (C × V)) → BelongsAt cmp (keys_of (e ∷ es)) k (length (e ∷ es)) zero
      → BelongsAt cmp (keys_of es) k (length es) zero
  gap_first e es h = record {
    within = omega arith;
    before = λ j l. absurd (omega arith);
    behind = λ j l m. h.behind (suc j) (omega arith) (omega arith);
  }

  sorted_tail : (e : C × V) (es : List (C × V)) → IsStrictlySortedBy cmp (keys_of (e ∷ es))
      → IsStrictlySortedBy cmp (keys_of es)
  unfolding IsStrictlySortedBy
  sorted_tail e es s = s.1

  -- the first key is before one that is further on
  head_before : (e : C × V) (es : List (C × V)) (i : ℕ) → IsStrictlySortedBy cmp (keys_of (e ∷ es))
      → IsAt cmp (keys_of (e ∷ es)) k (length (e ∷ es)) (suc i) → cmp k e.0 ≡ Greater
  head_before e es i s h =
      let a : cmp e.0 (get_or (keys_of es) i k) ≡ Less = Less-from_sorted cmp (keys_of (e ∷ es)) 0 (suc i) k s (omega arith) (omega (arith, h.within, length-map es (λ (x : C × V). x.0))) in
      back cmp o k e.0 Less (sym (alike_right o (get_or (keys_of es) i k) k e.0 h.equal) ∙ a)

  pub lookup_at : (es : List (C × V)) (i : ℕ) (d : C × V) → IsStrictlySortedBy cmp (keys_of es)
      → IsAt cmp (keys_of es) k (length es) i
      → let row : C × V = get_or es i d in lookup (is_at (cmp k)) es ≡ Some row.1
  lookup_at [] i d s h = absurd (omega (arith, h.within))
  lookup_at (e ∷ es) zero d s h = rw (tied_back o e.0 k h.equal) refl
  lookup_at (e ∷ es) (suc i) d s h = rw (head_before e es i s h) (lookup_at es i d (sorted_tail e es s) (at_tail e es i h))

  pub remove_at : (es : List (C × V)) (i : ℕ) → IsStrictlySortedBy cmp (keys_of es)
      → IsAt cmp (keys_of es) k (length es) i → remove es i ≡ remove_entry (is_at (cmp k)) es
  remove_at [] i s h = absurd (omega (arith, h.within))
  remove_at (e ∷ es) zero s h = rw (tied_back o e.0 k h.equal) refl
  remove_at (e ∷ es) (suc i) s h = rw (head_before e es i s h) (ap (λ xs. e ∷ xs) (remove_at es i (sorted_tail e es s) (at_tail e es i h)))

  pub set_at : (es : List (C × V)) (i : ℕ) (v : V) (x : C) (d : C × V) → IsStrictlySortedBy cmp (keys_of es)
      → IsAt cmp (keys_of es) k (length es) i → let row : C × V = get_or es i d in x ≡ row.0
      → set es i (x, v) ≡ insert_entry cmp es k v
  set_at [] i v x d s h e = absurd (omega (arith, h.within))
  set_at (e ∷ es) zero v x d s h q = rw (tied_back o e.0 k h.equal) (ap (λ (y : C). (y, v) ∷ es) q)
  set_at (e ∷ es) (suc i) v x d s h q = rw (head_before e es i s h) (ap (λ xs. e ∷ xs) (set_at es i v x d (sorted_tail e es s) (at_tail e es i h) q))

  pub write_at : (es : List (C × V)) (i : ℕ) (v : V) → IsStrictlySortedBy cmp (keys_of es)
      → IsAt cmp (keys_of es) k (length es) i → with_value_at es i v ≡ insert_entry cmp es k v
  write_at [] i v s h = absurd (omega (arith, h.within))
  write_at (e ∷ es) zero v s h = rw (tied_back o e.0 k h.equal) refl
  write_at (e ∷ es) (suc i) v s h = rw (head_before e es i s h) (ap (λ xs. e ∷ xs) (write_at es i v (sorted_tail e es s) (at_tail e es i h)))

  pub insert_gap : (es : List (C × V)) (i : ℕ) (v : V) → BelongsAt cmp (keys_of es) k (length es) i
      → insert es i (k, v) ≡ insert_entry cmp es k v
  insert_gap [] zero v h = refl
  insert_gap [] (suc i) v h = absurd (omega (arith, h.within))
  insert_gap (e ∷ es) zero v h = rw (back cmp o k e.0 Greater (h.behind 0 (omega arith) (omega arith))) refl
  insert_gap (e ∷ es) (suc i) v h = rw (back cmp o k e.0 Less (h.before 0 (omega arith))) (ap (λ xs. e ∷ xs) (insert_gap es i v (gap_tail e es i h)))

  pub lookup_gap : (es : List (C × V)) (i : ℕ) → BelongsAt cmp (keys_of es) k (length es) i
      → lookup (is_at (cmp k)) es ≡ None
  lookup_gap [] i h = refl
  lookup_gap (e ∷ es) zero h = rw (back cmp o k e.0 Greater (h.behind 0 (omega arith) (omega arith))) (lookup_gap es zero (gap_first e es h))
  lookup_gap (e ∷ es) (suc i) h = rw (back cmp o k e.0 Less (h.before 0 (omega arith))) (lookup_gap es i (gap_tail e es i h))

  pub remove_gap : (es : List (C × V)) (i : ℕ) → BelongsAt cmp (keys_of es) k (length es) i
      → es ≡ remove_entry (is_at (cmp k)) es
  remove_gap [] i h = refl
  remove_gap (e ∷ es) zero h = rw (back cmp o k e.0 Greater (h.behind 0 (omega arith) (omega arith))) (ap (λ xs. e ∷ xs) (remove_gap es zero (gap_first e es h)))
  remove_gap (e ∷ es) (suc i) h = rw (back cmp o k e.0 Less (h.before 0 (omega arith))) (ap (λ xs. e ∷ xs) (remove_gap es i (gap_tail e es i h)))

  -- what holds of the keys and of k holds of the keys after
  all_insert : (P : C → Type 0) (es : List (C × V)) (v : V) → AllByRecursion P (keys_of es) → P k
      → AllByRecursion P (keys_of (insert_entry cmp es k v))
  all_insert P [] v a p = (p, tt)
  all_insert P (e ∷ es) v a p = elim (cmp k e.0) as (λ r. AllByRecursion P (keys_of (match_ordering r ((k, v) ∷ e ∷ es) ((e.0, v) ∷ es) (e ∷ insert_entry cmp es k v)))) [
    | Less ↦ (p, a)
    | Equal ↦ a
    | Greater ↦ (a.0, all_insert P es v a.1 p)
  ]

  all_remove : (P : C → Type 0) (test : C → Bool) (es : List (C × V)) → AllByRecursion P (keys_of es)
      → AllByRecursion P (keys_of (remove_entry test es))
  all_remove P test [] a = tt
  all_remove P test (e ∷ es) a = elim (test e.0) as (λ b. AllByRecursion P (keys_of (cond b es (e ∷ remove_entry test es)))) [
    | true ↦ a.1
    | false ↦ (a.0, all_remove P test es a.1)
  ]

  pub sorted_insert : (es : List (C × V)) (v : V) → IsStrictlySortedBy cmp (keys_of es)
      → IsStrictlySortedBy cmp (keys_of (insert_entry cmp es k v))
  unfolding IsStrictlySortedBy
  sorted_insert [] v s = (tt, tt)
  sorted_insert (e ∷ es) v s = elim (cmp k e.0) as (λ r. cmp k e.0 ≡ r → IsStrictlySortedBy cmp (keys_of (match_ordering r ((k, v) ∷ e ∷ es) ((e.0, v) ∷ es) (e ∷ insert_entry cmp es k v)))) [
    | Less ↦ λ q. ((q, all_after cmp o k k e.0 q (keys_of es) s.0), s)
    | Equal ↦ λ q. s
    | Greater ↦ λ q. (all_insert (λ z. cmp e.0 z ≡ Less) es v s.0 (o.antisymm e.0 k ∙ ap ordering_reverse q), sorted_insert es v s.1)
  ] refl

  pub sorted_remove : (test : C → Bool) (es : List (C × V)) → IsStrictlySortedBy cmp (keys_of es)
      → IsStrictlySortedBy cmp (keys_of (remove_entry test es))
  unfolding IsStrictlySortedBy
  sorted_remove test [] s = tt
  sorted_remove test (e ∷ es) s = elim (test e.0) as (λ b. IsStrictlySortedBy cmp (keys_of (cond b es (e ∷ remove_entry test es)))) [
    | true ↦ s.1
    | false ↦ (all_remove (λ z. cmp e.0 z ≡ Less) test es s.0, sorted_remove test es s.1)
  ]
