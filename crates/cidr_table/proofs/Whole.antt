-- Rows that ascend are told by which they are.
use Rattle.std.proofs.Common.{◌≡◌, ◌≢◌, ℕ, zero, suc, ◌<◌, List, [], ◌∷◌, Some, slice_get, refl, sym, ap, ap₂, ◌∙◌, subst, arith, inl, inr}
use Rattle.std.specs.Cmp.{IsTotalOrder}
use Rattle.std.specs.Ordering.{ordering_reverse}
use Rattle.std.specs.List.{Contains, AllByRecursion}
use Rattle.std.specs.List.Sorted.{IsStrictlySortedBy}
use Rattle.std.specs.Map.{keys_of}
use Rattle.std.specs.declared.cmp.Ordering.{Ordering}
use Rattle.std.specs.declared.cmp.Ordering.TheVariants.{Less, Greater}
use Rattle.cidr_table.specs.model.LastRows.{IsLastRow, AreLastRows}
use Rattle.cidr_table.proofs.MapLaws.{contains_first, contains_later, contains_cases, contains_nothing}

module _ {X : Type 0} where
  in_from_get : (xs : List X) (n : ℕ) (x : X) → slice_get xs n ≡ Some x → Contains xs x
  in_from_get [] n x e = absurd (cc)
  in_from_get (y ∷ xs) zero x e = let f : y ≡ x = cc in subst (λ z. Contains (y ∷ xs) z) f (contains_first y xs)
  in_from_get (y ∷ xs) (suc n) x e = contains_later y x xs (in_from_get xs n x e)

  all_get : (P : X → Type 0) (xs : List X) (n : ℕ) (x : X) → AllByRecursion P xs → slice_get xs n ≡ Some x → P x
  all_get P [] n x h e = absurd (cc)
  all_get P (y ∷ xs) zero x h e = let f : y ≡ x = cc in subst P f h.0
  all_get P (y ∷ xs) (suc n) x h e = all_get P xs n x h.1 e

module _ {C : Type 0} (cmp : C → C → Ordering) (o : IsTotalOrder cmp) where
  not_two : (a b : C) → cmp a b ≡ Less → ¬ (cmp b a ≡ Less)
  not_two a b h l = let f : Less ≡ Greater = sym h ∙ (o.antisymm a b ∙ ap ordering_reverse l) in cc

module _ {C V : Type 0} (cmp : C → C → Ordering) (o : IsTotalOrder cmp) where
  abbrev Sorted : List (C × V) → Type 0
  Sorted rows = IsStrictlySortedBy cmp (keys_of rows)

  above_row : (key : C) (rows : List (C × V)) (row : C × V) → AllByRecursion (λ q. cmp key q ≡ Less) (keys_of rows) → Contains rows row → cmp key row.0 ≡ Less
  above_row key [] row h m = absurd (contains_nothing row m)
  above_row key (r ∷ rows) row h m = elim (contains_cases r row rows m) [
    | inl e ↦ subst (λ (x : C × V). cmp key x.0 ≡ Less) e h.0
    | inr k ↦ above_row key rows row h.1 k
  ]

  first_same : (x y : C × V) (xs ys : List (C × V)) → Sorted (x ∷ xs) → Sorted (y ∷ ys) → Contains (y ∷ ys) x → Contains (x ∷ xs) y → x ≡ y
  unfolding IsStrictlySortedBy
  first_same x y xs ys s t m n = elim (contains_cases y x ys m) [
    | inl e ↦ sym e
    | inr k ↦ elim (contains_cases x y xs n) [
      | inl e ↦ e
      | inr l ↦ absurd (not_two cmp o x.0 y.0 (above_row x.0 xs y s.0 l) (above_row y.0 ys x t.0 k))
    ]
  ]

  rest_in : (x : C × V) (xs ys : List (C × V)) → Sorted (x ∷ xs) → ((z : C × V) → Contains (x ∷ xs) z → Contains (x ∷ ys) z)
      → (z : C × V) → Contains xs z → Contains ys z
  unfolding IsStrictlySortedBy
  rest_in x xs ys s h z m = elim (contains_cases x z ys (h z (contains_later x z xs m))) [
    | inl e ↦
        let l : cmp x.0 x.0 ≡ Less = subst (λ (w : C × V). cmp x.0 w.0 ≡ Less) (sym e) (above_row x.0 xs z s.0 m) in
        absurd (not_two cmp o x.0 x.0 l l)
    | inr k ↦ k
  ]

  pub same_rows : (xs ys : List (C × V)) → Sorted xs → Sorted ys → ((z : C × V) → Contains xs z → Contains ys z) → ((z : C × V) → Contains ys z → Contains xs z) → xs ≡ ys
  unfolding IsStrictlySortedBy
  same_rows [] [] s t h k = refl
  same_rows [] (y ∷ ys) s t h k = absurd (contains_nothing y (k y (contains_first y ys)))
  same_rows (x ∷ xs) [] s t h k = absurd (contains_nothing x (h x (contains_first x xs)))
  same_rows (x ∷ xs) (y ∷ ys) s t h k =
      let e : x ≡ y = first_same x y xs ys s t (h x (contains_first x xs)) (k y (contains_first y ys)) in
      let f = rest_in x xs ys s (λ z m. subst (λ (w : C × V). Contains (w ∷ ys) z) (sym e) (h z m)) in
      let g = rest_in y ys xs t (λ z m. subst (λ (w : C × V). Contains (w ∷ xs) z) e (k z m)) in
      ap₂ (λ w l. w ∷ l) e (same_rows xs ys s.1 t.1 f g)

  last_of : (rows : List (C × V)) → Sorted rows → (row : C × V) → Contains rows row → IsLastRow rows row
  unfolding IsStrictlySortedBy
  last_of [] s row m = absurd (contains_nothing row m)
  last_of (r ∷ rows) s row m = elim (contains_cases r row rows m) [
    | inl e ↦ record {
      index = 0;
      here = ap Some e;
      last = λ other. after (other) e;
    }
    | inr k ↦ let l = last_of rows s.1 row k in record {
      index = suc l.index;
      here = l.here;
      last = λ other. later l other;
    }
  ]
    where
      after : (other : ℕ) → r ≡ row → 0 < other → slice_get (keys_of (r ∷ rows)) other ≢ Some row.0
      after zero e h f = absurd (omega arith)
      after (suc n) e h f =
          let l : cmp r.0 row.0 ≡ Less = all_get (λ q. cmp r.0 q ≡ Less) (keys_of rows) n row.0 s.0 f in
          let m : cmp row.0 row.0 ≡ Less = subst (λ (x : C × V). cmp x.0 row.0 ≡ Less) e l in
          not_two cmp o row.0 row.0 m m

      later : (l : IsLastRow rows row) (other : ℕ) → suc l.index < other → slice_get (keys_of (r ∷ rows)) other ≢ Some row.0
      later l zero h f = absurd (omega arith)
      later l (suc n) h f = l.last n (omega arith) f

  pub last_all : (rows kept : List (C × V)) → AreLastRows rows kept → Sorted rows → Sorted kept → kept ≡ rows
  last_all rows kept h s t =
      same_rows kept rows t s (λ z m. let l = (h z).0 m in in_from_get rows l.index z l.here) (λ z m. (h z).1 (last_of rows s z m))
