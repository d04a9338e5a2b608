-- The last row of each key: in rows whose order within each key stays, and in what is left of rows that ascend.
use Rattle.std.proofs.Common.{◌≡◌, ◌≢◌, ◌⊎◌, ◌↔◌, ℕ, zero, suc, ◌<◌, Bool, true, false, cond, List, [], ◌∷◌, ◌++◌, refl, sym, ap, ap₂, ◌∙◌, subst, arith, inl, inr, slice_get, Some, is_eq, Less, Equal, Greater, Ordering}
use Rattle.std.proofs.lemmas.Cmp.{tied_itself}
use Rattle.std.proofs.lemmas.Option.{slice_get-get_or, slice_get_within, get_or_from_slice_get}
use Rattle.std.specs.Bool.{MatchBool}
use Rattle.std.specs.Cmp.{IsTotalOrder}
use Rattle.std.specs.List.{Contains, AllByRecursion}
use Rattle.std.specs.List.Retain.{DedupsFrom, IsDeduped}
use Rattle.std.specs.List.Sorted.{IsStrictlySortedBy}
use Rattle.std.specs.Map.{keys_of}
use Rattle.cidr_table.specs.model.LastRows.{IsLastRow, AreLastRows}
use Rattle.cidr_table.specs.internal.Sorting.{AreAscending, rows_of, AreRowsKept}
use Rattle.cidr_table.proofs.MapLaws.{contains_first, contains_later, contains_cases, contains_nothing, contains_key}
use Rattle.cidr_table.proofs.Merging.{passed, filter_in, any_of, flipped, less_then}

module _ {C V : Type 0} where
  -- the row, and none of its key behind it
  abbrev pub EndsAt : List (C × V) → C × V → Type 0
  EndsAt [] row = ⊥
  EndsAt (x ∷ xs) row = ((x ≡ row) × ¬ (Contains (keys_of xs) row.0)) ⊎ EndsAt xs row

  end_at : (xs : List (C × V)) (row : C × V) (i : ℕ) → slice_get xs i ≡ Some row → ((j : ℕ) → i < j → slice_get (keys_of xs) j ≢ Some row.0) → EndsAt xs row
  end_at [] row i h l = absurd (cc)
  end_at (x ∷ xs) row zero h l =
      let same : x ≡ row = cc in
      inl (same, λ c. l (suc c.0) (omega arith) (slice_get-get_or (keys_of xs) c.0 row.0 c.1 ∙ ap Some c.2))
  end_at (x ∷ xs) row (suc i) h l = inr (end_at xs row i h (λ j u. l (suc j) (omega arith)))

  pub end_of : (xs : List (C × V)) (row : C × V) → IsLastRow xs row → EndsAt xs row
  end_of xs row h = end_at xs row h.index h.here h.last

  none_later : (x row : C × V) (xs : List (C × V)) → ¬ (Contains (keys_of xs) row.0) → (j : ℕ) → 0 < j → slice_get (keys_of (x ∷ xs)) j ≢ Some row.0
  none_later x row xs n zero u s = absurd (omega arith)
  none_later x row xs n (suc j) u s = n (j, slice_get_within (keys_of xs) j row.0 s, get_or_from_slice_get (keys_of xs) j row.0 row.0 s)

  later_none : (x row : C × V) (xs : List (C × V)) (i : ℕ) → ((j : ℕ) → i < j → slice_get (keys_of xs) j ≢ Some row.0) → (j : ℕ) → suc i < j → slice_get (keys_of (x ∷ xs)) j ≢ Some row.0
  later_none x row xs i l zero u s = absurd (omega arith)
  later_none x row xs i l (suc j) u s = l j (omega arith) s

  pub last_row : (xs : List (C × V)) (row : C × V) → EndsAt xs row → IsLastRow xs row
  last_row [] row e = absurd e
  last_row (x ∷ xs) row (inl h) = record { index = 0; here = ap Some h.0; last = none_later x row xs h.1 }
  last_row (x ∷ xs) row (inr e) = let t = last_row xs row e in record { index = suc t.index; here = t.here; last = later_none x row xs t.index t.last }

  pub end_contains : (xs : List (C × V)) (row : C × V) → EndsAt xs row → Contains xs row
  end_contains [] row e = absurd e
  end_contains (x ∷ xs) row (inl h) = subst (Contains (x ∷ xs)) h.0 (contains_first x xs)
  end_contains (x ∷ xs) row (inr e) = contains_later x row xs (end_contains xs row e)

  key_row : (xs : List (C × V)) (key : C) → Contains (keys_of xs) key → (x : C × V) × Contains xs x × (x.0 ≡ key)
  key_row [] key c = absurd (contains_nothing key c)
  key_row (x ∷ xs) key c = elim (contains_cases x.0 key (keys_of xs) c) [
    | inl e ↦ (x, contains_first x xs, e)
    | inr later ↦ let h = key_row xs key later in (h.0, contains_later x h.0 xs h.1, h.2)
  ]

module _ {C V : Type 0} (cmp : C → C → Ordering) (o : IsTotalOrder cmp) (exact : (x y : C) → cmp x y ≡ Equal → x ≡ y) where
  none_of : (key : C) (xs : List (C × V)) → ¬ (Contains (keys_of xs) key) → rows_of cmp key xs ≡ []
  none_of key xs n = elim (any_of cmp key xs) as (λ _. rows_of cmp key xs ≡ []) [
    | inl e ↦ e
    | inr h ↦ absurd (n (subst (Contains (keys_of xs)) (exact h.0.0 key h.2) (contains_key xs h.0 h.1)))
  ]

  pub no_key : (key : C) (xs : List (C × V)) → rows_of cmp key xs ≡ [] → ¬ (Contains (keys_of xs) key)
  no_key key xs e c =
      let h = key_row xs key c in
      let here = filter_in (λ (r : C × V). is_eq (cmp r.0 key)) h.0 xs (ap is_eq (ap (λ k. cmp k key) h.2 ∙ tied_itself o key)) h.1 in
      contains_nothing h.0 (subst (λ l. Contains l h.0) e here)

  end_shows : (xs : List (C × V)) (row : C × V) → EndsAt xs row → (front : List (C × V)) × (rows_of cmp row.0 xs ≡ front ++ row ∷ [])
  end_shows [] row e = absurd e
  end_shows (x ∷ xs) row (inl h) = (
    [],
    passed (λ (r : C × V). is_eq (cmp r.0 row.0)) x xs (ap is_eq (ap (λ (r : C × V). cmp r.0 row.0) h.0 ∙ tied_itself o row.0)) ∙ ap₂ (λ r l. r ∷ l) h.0 (none_of row.0 xs h.1),
  )
  end_shows (x ∷ xs) row (inr e) =
      let (front, s) = end_shows xs row e in
      elim (is_eq (cmp x.0 row.0)) as (λ b. (front : List (C × V)) × (cond b (x ∷ rows_of cmp row.0 xs) (rows_of cmp row.0 xs) ≡ front ++ row ∷ [])) [
        | true ↦ (x ∷ front, ap (λ l. x ∷ l) s)
        | false ↦ (front, s)
      ]

  end_from : (xs : List (C × V)) (row : C × V) (front : List (C × V)) → rows_of cmp row.0 xs ≡ front ++ row ∷ [] → EndsAt xs row
  end_from [] row [] e = absurd (cc)
  end_from [] row (f ∷ front) e = absurd (cc)
  end_from (x ∷ xs) row [] e =
      elim (is_eq (cmp x.0 row.0)) as (λ b. cond b (x ∷ rows_of cmp row.0 xs) (rows_of cmp row.0 xs) ≡ row ∷ [] → EndsAt (x ∷ xs) row) [
        | true ↦ λ g. let same : x ≡ row = cc in let none : rows_of cmp row.0 xs ≡ [] = cc in inl (same, no_key row.0 xs none)
        | false ↦ λ g. inr (end_from xs row [] g)
      ] e
  end_from (x ∷ xs) row (f ∷ front) e =
      elim (is_eq (cmp x.0 row.0)) as (λ b. cond b (x ∷ rows_of cmp row.0 xs) (rows_of cmp row.0 xs) ≡ f ∷ (front ++ row ∷ []) → EndsAt (x ∷ xs) row) [
        | true ↦ λ g. let rest : rows_of cmp row.0 xs ≡ front ++ row ∷ [] = cc in inr (end_from xs row front rest)
        | false ↦ λ g. inr (end_from xs row (f ∷ front) g)
      ] e

  same_end : (xs ys : List (C × V)) (row : C × V) → rows_of cmp row.0 ys ≡ rows_of cmp row.0 xs → EndsAt xs row → EndsAt ys row
  same_end xs ys row e h = let (front, s) = end_shows xs row h in end_from ys row front (e ∙ s)

  -- the last rows are the same where the rows of each key are
  pub last_of_kept : (old new kept : List (C × V)) → AreRowsKept cmp old new → AreLastRows new kept → AreLastRows old kept
  last_of_kept old new kept k last row = (
    λ c. last_row old row (same_end new old row (sym (k row.0)) (end_of new row ((last row).0 c))),
    λ h. (last row).1 (last_row new row (same_end old new row (k row.0) (end_of old row h))),
  )

  -- what stays of k and the rows behind it
  abbrev pub last_from : C × V → List (C × V) → List (C × V)
  last_from k [] = k ∷ []
  last_from k (x ∷ xs) = cond (is_eq (cmp x.0 k.0)) (last_from x xs) (k ∷ last_from x xs)

  -- a greater key comes before all that stand behind it
  less_all : (k x : C × V) (xs : List (C × V)) → AreAscending cmp (x ∷ xs) → cmp x.0 k.0 ≡ Greater → (y : C × V) → Contains (x ∷ xs) y → cmp k.0 y.0 ≡ Less
  less_all k x xs a q y c = elim (contains_cases x y xs c) [
    | inl e ↦ subst (λ (r : C × V). cmp k.0 r.0 ≡ Less) e (flipped cmp o x.0 k.0 q)
    | inr later ↦ less_then cmp o k.0 x.0 y.0 (flipped cmp o x.0 k.0 q) (a.0 y later)
  ]

  not_there : (k : C × V) (xs : List (C × V)) → ((y : C × V) → Contains xs y → cmp k.0 y.0 ≡ Less) → ¬ (Contains (keys_of xs) k.0)
  not_there k xs less c =
      let h = key_row xs k.0 c in
      let f : Less ≡ Equal = sym (less h.0 h.1) ∙ (ap (cmp k.0) h.2 ∙ tied_itself o k.0) in cc

  last_stay : (k : C × V) (xs : List (C × V)) → AreAscending cmp (k ∷ xs) → (row : C × V) → Contains (last_from k xs) row ↔ EndsAt (k ∷ xs) row
  last_stay k [] a row = (
    λ c. elim (contains_cases k row [] c) [ inl e ↦ inl (e, contains_nothing row.0) | inr n ↦ absurd (contains_nothing row n) ],
    λ h. elim h [ inl s ↦ subst (Contains (k ∷ [])) s.0 (contains_first k []) | inr n ↦ absurd n ],
  )
  last_stay k (x ∷ xs) a row =
      let rest = last_stay x xs a.1 row in
      elim (cmp x.0 k.0) as (λ r. cmp x.0 k.0 ≡ r → Contains (cond (is_eq r) (last_from x xs) (k ∷ last_from x xs)) row ↔ EndsAt (k ∷ x ∷ xs) row) [
        | Less ↦ λ q. absurd (a.0 x (contains_first x xs) q)
        | Equal ↦ λ q. (
          λ c. inr (rest.0 c),
          λ h. elim h [
            | inl s ↦ absurd (s.1 (subst (Contains (keys_of (x ∷ xs))) (exact x.0 k.0 q ∙ ap (λ (r : C × V). r.0) s.0) (contains_first x.0 (keys_of xs))))
            | inr later ↦ rest.1 later
          ],
        )
        | Greater ↦ λ q.
            let less = less_all k x xs a.1 q in (
              λ c. elim (contains_cases k row (last_from x xs) c) [
                | inl e ↦ inl (e, subst (λ (r : C × V). ¬ (Contains (keys_of (x ∷ xs)) r.0)) e (not_there k (x ∷ xs) less))
                | inr later ↦ inr (rest.0 later)
              ],
              λ h. elim h [ inl s ↦ subst (Contains (k ∷ last_from x xs)) s.0 (contains_first k (last_from x xs)) | inr later ↦ contains_later k row (last_from x xs) (rest.1 later) ],
            )
      ] refl

  all_keys : (k : C) (zs : List (C × V)) → ((y : C × V) → Contains zs y → cmp k y.0 ≡ Less) → AllByRecursion (λ z. cmp k z ≡ Less) (keys_of zs)
  all_keys k [] h = tt
  all_keys k (z ∷ zs) h = (h z (contains_first z zs), all_keys k zs (λ y c. h y (contains_later z y zs c)))

  stay_sorted : (k : C × V) (xs : List (C × V)) → AreAscending cmp (k ∷ xs) → IsStrictlySortedBy cmp (keys_of (last_from k xs))
  unfolding IsStrictlySortedBy
  stay_sorted k [] a = (tt, tt)
  stay_sorted k (x ∷ xs) a = elim (cmp x.0 k.0) as (λ r. cmp x.0 k.0 ≡ r → IsStrictlySortedBy cmp (keys_of (cond (is_eq r) (last_from x xs) (k ∷ last_from x xs)))) [
    | Less ↦ λ q. absurd (a.0 x (contains_first x xs) q)
    | Equal ↦ λ q. stay_sorted x xs a.1
    | Greater ↦ λ q. (
      all_keys k.0 (last_from x xs) (λ y c. less_all k x xs a.1 q y (end_contains (x ∷ xs) y ((last_stay x xs a.1 y).0 c))),
      stay_sorted x xs a.1,
    )
  ] refl

  -- ---- what `dedup_by` leaves, where a row that goes changes places with the one before
  module _ (eq : C → C → Bool) (ties : (x y : C) → eq x y ≡ is_eq (cmp x y)) {S : Type 0} (R : S → C × V → C × V → Bool → S → C × V → C × V → Type 0)
      (f : (s : S) (x k : C × V) (b : Bool) (t : S) (x' k' : C × V) → R s x k b t x' k' → (b ≡ eq x.0 k.0) × (x' ≡ cond b k x) × (k' ≡ cond b x k)) where
    left_from : (xs : List (C × V)) (s : S) (k : C × V) (ys : List (C × V)) → DedupsFrom R s k xs ys → ys ≡ last_from k xs
    left_from [] s k ys h = h
    left_from (x ∷ xs) s k ys h =
        let said = f s x k h.0 h.1 h.2 h.3 h.4 in
        elim h.0 as (λ b. h.2 ≡ cond b k x → h.3 ≡ cond b x k → MatchBool b (DedupsFrom R h.1 h.3 xs ys) ((zs : List (C × V)) × DedupsFrom R h.1 h.2 xs zs × (ys ≡ h.3 ∷ zs))
        → ys ≡ cond b (last_from x xs) (k ∷ last_from x xs)) [
          | true ↦ λ d e m. left_from xs h.1 h.3 ys m ∙ ap (λ v. last_from v xs) e
          | false ↦ λ d e m. m.2 ∙ ap₂ (λ u v. u ∷ v) e (left_from xs h.1 h.2 m.0 m.1 ∙ ap (λ v. last_from v xs) d)
        ] said.1 said.2 h.5
        ∙ ap (λ b. cond b (last_from x xs) (k ∷ last_from x xs)) (said.0 ∙ ties x.0 k.0)

    pub left_last : (s : S) (xs ys : List (C × V)) → AreAscending cmp xs → IsDeduped R s xs ys → IsStrictlySortedBy cmp (keys_of ys) × AreLastRows xs ys
    unfolding IsStrictlySortedBy
    left_last s [] ys a d = (
      subst (λ l. IsStrictlySortedBy cmp (keys_of l)) (sym d.told) tt,
      λ row. (λ c. absurd (contains_nothing row (subst (λ l. Contains l row) d.told c)), λ h. absurd (end_of [] row h)),
    )
    left_last s (x ∷ xs) ys a d =
        let is = left_from xs s x ys d.told in (
          subst (λ l. IsStrictlySortedBy cmp (keys_of l)) (sym is) (stay_sorted x xs a),
          λ row. (
            λ c. last_row (x ∷ xs) row ((last_stay x xs a row).0 (subst (λ l. Contains l row) is c)),
            λ h. subst (λ l. Contains l row) (sym is) ((last_stay x xs a row).1 (end_of (x ∷ xs) row h)),
          ),
        )
