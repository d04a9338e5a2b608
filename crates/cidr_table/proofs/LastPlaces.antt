-- Rows in the order of their keys and places, of which the last of each key stays.
use Rattle.std.proofs.Common.{◌≡◌, ◌≢◌, ◌⊎◌, ℕ, zero, suc, ◌+◌, ◌<◌, ◌≤◌, false, List, [], ◌∷◌, ◌++◌, length, get_or, slice_get, Some, refl, sym, ap, ap₂, ◌∙◌, subst, arith, inl, inr, true≢false}
use Rattle.std.proofs.lemmas.List.Sorted.{sorted_far, Contains-permutation, IsPermutation-sym}
use Rattle.std.proofs.lemmas.List.MinMax.{ranks_by}
use Rattle.std.proofs.lemmas.Cmp.{on_total, then_total, nat_cmp_total}
use Rattle.std.specs.Cmp.{IsTotalOrder, ranks}
use Rattle.std.specs.List.{Contains}
use Rattle.std.specs.List.Sorted.{IsSorted, IsPermutation}
use Rattle.std.specs.Map.{keys_of}
use Rattle.std.specs.Ordering.{is_lt, nat_cmp, ordering_then, ordering_reverse, MatchOrdering}
use Rattle.std.specs.declared.cmp.Ordering.{Ordering}
use Rattle.std.specs.declared.cmp.Ordering.TheVariants.{Less, Equal, Greater}
use Rattle.cidr_table.specs.model.Loading.{placed, IsLastPlace, AreLast}
use Rattle.cidr_table.specs.model.LastRows.{AreLastRows}
use Rattle.cidr_table.proofs.LastRows.{EndsAt, end_of, last_row, end_contains, no_key}
use Rattle.cidr_table.proofs.MapLaws.{contains_first, contains_later, contains_cases, contains_nothing, contains_key}
use Rattle.cidr_table.proofs.Merging.{any_of}

not_below : (m n : ℕ) → is_lt (nat_cmp m n) ≡ false → n ≤ m
not_below m n h = elim (nat_cmp m n) as (λ r. MatchOrdering r (m < n) (m ≡ n) (n < m) → is_lt r ≡ false → n ≤ m) [
  | Less ↦ λ k f. absurd (true≢false f)
  | Equal ↦ λ k f. omega (arith, k)
  | Greater ↦ λ k f. omega (arith, k)
] (ranks m n) h

module _ {C : Type 0} (cmp : C → C → Ordering) (o : IsTotalOrder cmp) (exact : (x y : C) → cmp x y ≡ Equal → x ≡ y) where
  -- by key, and then by place
  abbrev pub row_cmp : C × ℕ → C × ℕ → Ordering
  row_cmp x y = ordering_then (cmp x.0 y.0) (nat_cmp x.1 y.1)

  itself : (k : C) → cmp k k ≡ Equal
  itself k = elim (cmp k k) as (λ r. cmp k k ≡ r → cmp k k ≡ Equal) [
    | Less ↦ λ q. let f : Less ≡ Greater = sym q ∙ (o.antisymm k k ∙ ap ordering_reverse q) in (cc)
    | Equal ↦ λ q. q
    | Greater ↦ λ q. let f : Greater ≡ Less = sym q ∙ (o.antisymm k k ∙ ap ordering_reverse q) in (cc)
  ] refl

  below_apart : (k c : C) → cmp k c ≡ Less → k ≢ c
  below_apart k c h e = let f : Less ≡ Equal = sym h ∙ (sym (ap (cmp k) e) ∙ itself k) in cc

  -- y may stand behind x: it has a greater key, or the same and no lesser place
  abbrev Comes : C × ℕ → C × ℕ → Type 0
  Comes x y = (cmp x.0 y.0 ≡ Less) ⊎ ((x.0 ≡ y.0) × (x.1 ≤ y.1))

  comes : (x y : C × ℕ) → is_lt (row_cmp y x) ≡ false → Comes x y
  comes x y h = elim (cmp y.0 x.0) as (λ r. cmp y.0 x.0 ≡ r → is_lt (ordering_then r (nat_cmp y.1 x.1)) ≡ false → Comes x y) [
    | Less ↦ λ q f. absurd (true≢false f)
    | Equal ↦ λ q f. inr (sym (exact y.0 x.0 q), not_below y.1 x.1 f)
    | Greater ↦ λ q f. inl (o.antisymm x.0 y.0 ∙ ap ordering_reverse q)
  ] refl h

  not_back : (x y : C × ℕ) → Comes x y → cmp y.0 x.0 ≢ Less
  not_back x y (inl h) l = let f : Less ≡ Greater = sym l ∙ (o.antisymm y.0 x.0 ∙ ap ordering_reverse h) in cc
  not_back x y (inr h) l = below_apart y.0 x.0 l (sym h.0)

  abbrev Ascends : List (C × ℕ) → Type 0
  Ascends [] = Unit {0}
  Ascends (x ∷ xs) = ((y : C × ℕ) → Contains xs y → Comes x y) × Ascends xs

  abbrev Rises : List (C × ℕ) → Type 0
  Rises xs = (i j : ℕ) (d : C × ℕ) → i ≤ j → j < length xs → is_lt (row_cmp (get_or xs j d) (get_or xs i d)) ≡ false

  ascends : (xs : List (C × ℕ)) → Rises xs → Ascends xs
  ascends [] f = tt
  ascends (x ∷ xs) f = (
    λ y c. comes x y (subst (λ z. is_lt (row_cmp z x) ≡ false) c.2 (f 0 (suc c.0) y (omega arith) (omega (arith, c.1)))),
    ascends xs (λ i j d a b. f (suc i) (suc j) d (omega arith) (omega arith)),
  )

  pub ascends_sorted : (xs : List (C × ℕ)) → IsSorted row_cmp xs → Ascends xs
  ascends_sorted xs h = ascends xs (sorted_far (λ x y. is_lt (row_cmp x y)) (ranks_by (then_total (on_total (λ (x : C × ℕ). x.0) o) (on_total (λ (x : C × ℕ). x.1) nat_cmp_total)) (λ x. x)) xs h)

  -- the last row of a key has its greatest place
  end_greatest : (xs : List (C × ℕ)) (row : C × ℕ) → Ascends xs → EndsAt xs row → (other : C × ℕ) → Contains xs other → other.0 ≡ row.0 → other.1 ≤ row.1
  end_greatest [] row a e other c s = absurd e
  end_greatest (x ∷ xs) row a (inl (same, none)) other c s = elim (contains_cases x other xs c) [
    | inl e ↦ omega (arith, ap (λ (r : C × ℕ). r.1) e, ap (λ (r : C × ℕ). r.1) same)
    | inr later ↦ absurd (none (subst (Contains (keys_of xs)) s (contains_key xs other later)))
  ]
  end_greatest (x ∷ xs) row a (inr e) other c s = elim (contains_cases x other xs c) [
    | inl d ↦ elim (a.0 row (end_contains xs row e)) [
      | inl l ↦ absurd (below_apart x.0 row.0 l (ap (λ (r : C × ℕ). r.0) d ∙ s))
      | inr t ↦ omega (arith, t.1, ap (λ (r : C × ℕ). r.1) d)
    ]
    | inr later ↦ end_greatest xs row a.1 e other later s
  ]

  -- a row with the greatest place of its key is the last
  greatest_end : (xs : List (C × ℕ)) (row : C × ℕ) → Ascends xs → Contains xs row → ((other : C × ℕ) → Contains xs other → other.0 ≡ row.0 → other.1 ≤ row.1) → EndsAt xs row
  greatest_end [] row a c most = absurd (contains_nothing row c)
  greatest_end (x ∷ xs) row a c most =
      let here = contains_cases x row xs c in
      let behind = λ (other : C × ℕ) (d : Contains xs other) (s : other.0 ≡ row.0). most other (contains_later x other xs d) s in
      elim (any_of cmp row.0 xs) as (λ _. EndsAt (x ∷ xs) row) [
        | inl none ↦ elim here [
          | inl e ↦ inl (e, no_key cmp o exact row.0 xs none)
          | inr later ↦ inr (greatest_end xs row a.1 later behind)
        ]
        | inr found ↦ elim here [
          | inl e ↦
              let y = found.0 in
              let key : y.0 ≡ row.0 = exact y.0 row.0 found.2 in
              let places : row.1 ≤ y.1 = elim (a.0 y found.1) [
                | inl l ↦ absurd (below_apart x.0 y.0 l (ap (λ (r : C × ℕ). r.0) e ∙ sym key))
                | inr t ↦ omega (arith, t.1, ap (λ (r : C × ℕ). r.1) e)
              ] in
              let most_there = behind y found.1 key in
              let index : y.1 ≡ row.1 = omega (arith, places, most_there) in
              let whole : y ≡ row = ap₂ (λ k n. (k, n)) key index in
              inr (greatest_end xs row a.1 (subst (Contains xs) whole found.1) behind)
          | inr later ↦ inr (greatest_end xs row a.1 later behind)
        ]
      ]

  -- of rows that were sorted, the last of each key has its greatest place
  pub sorted_last : (old xs new : List (C × ℕ)) → IsPermutation old xs → IsSorted row_cmp xs → AreLastRows xs new → AreLast old new
  sorted_last old xs new p h last row =
      let a = ascends_sorted xs h in
      let back = IsPermutation-sym old xs p in (
        λ c.
            let e = end_of xs row ((last row).0 c) in (
              Contains-permutation xs old row back (end_contains xs row e),
              λ other d s. end_greatest xs row a e other (Contains-permutation old xs other p d) s,
            ),
        λ c. (last row).1 (last_row xs row (greatest_end xs row a (Contains-permutation old xs row p c.0) (λ other d s. c.1 other (Contains-permutation xs old other back d) s))),
      )

-- ---- keys with their places
module _ {C : Type 0} where
  placed_at : (n : ℕ) (keys : List C) (row : C × ℕ) → Contains (placed n keys) row → (i : ℕ) × (row.1 ≡ n + i) × (slice_get keys i ≡ Some row.0)
  placed_at n [] row c = absurd (contains_nothing row c)
  placed_at n (key ∷ keys) row c = elim (contains_cases (key, n) row (placed (n + 1) keys) c) [
    | inl e ↦ (0, omega (arith, ap (λ (r : C × ℕ). r.1) e), ap (λ (r : C × ℕ). Some r.0) e)
    | inr later ↦ let (i, index, here) = placed_at (n + 1) keys row later in (suc i, omega (arith, index), here)
  ]

  at_placed : (n : ℕ) (keys : List C) (key : C) (i index : ℕ) → index ≡ n + i → slice_get keys i ≡ Some key → Contains (placed n keys) (key, index)
  at_placed n [] key i index e h = absurd (cc)
  at_placed n (k ∷ keys) key zero index e h =
      let same : k ≡ key = cc in
      let first : n ≡ index = omega (arith, e) in
      subst (Contains (placed n (k ∷ keys))) (ap₂ (λ c m. (c, m)) same first) (contains_first (k, n) (placed (n + 1) keys))
  at_placed n (k ∷ keys) key (suc i) index e h = contains_later (k, n) (key, index) (placed (n + 1) keys) (at_placed (n + 1) keys key i index (omega (arith, e)) h)

  -- the last of the rows of each key has the key's last place
  pub last_places : (keys : List C) (rows new : List (C × ℕ)) → rows ≡ placed 0 keys → AreLast rows new → (row : C × ℕ)
      → (Contains new row → IsLastPlace keys row.0 row.1) × (IsLastPlace keys row.0 row.1 → Contains new row)
  last_places keys rows new e last row = (
    λ c.
        let t = (last row).0 c in
        let (i, index, here) = placed_at 0 keys row (subst (λ l. Contains l row) e t.0) in
        let same : i ≡ row.1 = omega (arith, index) in
        record {
          here = subst (λ j. slice_get keys j ≡ Some row.0) same here;
          last = λ other h. t.1 (row.0, other) (subst (λ l. Contains l (row.0, other)) (sym e) (at_placed 0 keys row.0 other other (omega arith) h)) refl;
        },
    λ t. (last row).1 (
      subst (λ l. Contains l row) (sym e) (at_placed 0 keys row.0 row.1 row.1 (omega arith) t.here),
      λ other d s.
          let (i, index, here) = placed_at 0 keys other (subst (λ l. Contains l other) e d) in
          let least = t.last i (here ∙ ap Some s) in
          omega (arith, least, index),
    ),
  )

  -- one more key after the others
  pub placed_push : (n : ℕ) (keys : List C) (key : C) → placed n (keys ++ key ∷ []) ≡ placed n keys ++ (key, n + length keys) ∷ []
  placed_push n [] key = let e : n ≡ n + 0 = omega arith in ap (λ m. (key, m) ∷ []) e
  placed_push n (k ∷ keys) key =
      let e : n + 1 + length keys ≡ n + length (k ∷ keys) = omega arith in
      ap (λ t. (k, n) ∷ t) (placed_push (n + 1) keys key ∙ ap (λ m. placed (n + 1) keys ++ (key, m) ∷ []) e)

  pub length-placed : (n : ℕ) (keys : List C) → length (placed n keys) ≡ length keys
  length-placed n [] = refl
  length-placed n (k ∷ keys) = ap suc (length-placed (n + 1) keys)
