-- Where the upper half begins.
use Rattle.std.proofs.Common.{◌≡◌, ℕ, zero, suc, ◌+◌, ◌<◌, ◌≤◌, Bool, true, false, List, [], ◌∷◌, ◌++◌, length, get_or, take, drop, Some, slice_get, refl, sym, ap, ap₂, ◌∙◌, subst, arith, inl, inr, drop_of_length-le}
use Rattle.std.proofs.lemmas.Bool.{cases_lt}
use Rattle.std.proofs.lemmas.List.{take-append-drop}
use Rattle.std.specs.List.{AllByRecursion}
use Rattle.std.specs.List.Sorted.{IsStrictlySortedBy}
use Rattle.std.specs.Map.{keys_of}
use Rattle.std.specs.declared.cmp.Ordering.TheVariants.{Less}
use Rattle.cidr.specs.model.Bits.{bit_cmp}
use Rattle.cidr_forwarding.specs.Trees.{under}
use Rattle.cidr_forwarding.specs.Plans.{tails, IsNode, AreDeep, NextIs, AreHalves}

-- ---- one list of bits
next_suc : (p : List Bool) (d : ℕ) (b : Bool) → slice_get p d ≡ Some b → drop d p ≡ b ∷ drop (suc d) p
next_suc [] d b h = absurd (cc)
next_suc (x ∷ p) zero b h = ap (λ y. y ∷ p) (cc)
next_suc (x ∷ p) (suc d) b h = next_suc p d b h

pub next_bit : (p : List Bool) (d : ℕ) (b : Bool) → slice_get p d ≡ Some b → drop d p ≡ b ∷ drop (d + 1) p
next_bit p d b h = let e : suc d ≡ d + 1 = omega arith in next_suc p d b h ∙ ap (λ n. b ∷ drop n p) e

tail_suc : (p : List Bool) (d : ℕ) (b : Bool) (t : List Bool) → drop d p ≡ b ∷ t → drop d p ≡ b ∷ drop (suc d) p
tail_suc [] zero b t h = absurd (cc)
tail_suc [] (suc d) b t h = absurd (cc)
tail_suc (x ∷ p) zero b t h = ap (λ y. y ∷ p) (cc)
tail_suc (x ∷ p) (suc d) b t h = tail_suc p d b t h

tail_bit : (p : List Bool) (d : ℕ) (b : Bool) (t : List Bool) → drop d p ≡ b ∷ t → drop d p ≡ b ∷ drop (d + 1) p
tail_bit p d b t h = let e : suc d ≡ d + 1 = omega arith in tail_suc p d b t h ∙ ap (λ n. b ∷ drop n p) e

below_false : (p q t : List Bool) → (p ≡ [] → ⊥) → bit_cmp p q ≡ Less → q ≡ false ∷ t → (u : List Bool) × (p ≡ false ∷ u)
below_false [] q t n l e = absurd (n refl)
below_false (false ∷ p) q t n l e = (p, refl)
below_false (true ∷ p) q t n l e = let f : bit_cmp (true ∷ p) (false ∷ t) ≡ Less = subst (λ s. bit_cmp (true ∷ p) s ≡ Less) e l in absurd (cc)

above_true : (p q t : List Bool) → bit_cmp p q ≡ Less → p ≡ true ∷ t → (u : List Bool) × (q ≡ true ∷ u)
above_true p [] t l e = let f : bit_cmp (true ∷ t) [] ≡ Less = subst (λ s. bit_cmp s [] ≡ Less) e l in absurd (cc)
above_true p (false ∷ q) t l e = let f : bit_cmp (true ∷ t) (false ∷ q) ≡ Less = subst (λ s. bit_cmp s (false ∷ q) ≡ Less) e l in absurd (cc)
above_true p (true ∷ q) t l e = (q, refl)

pub longer_than : (d : ℕ) (p : List Bool) → (drop d p ≡ [] → ⊥) → d < length p
longer_than d p n = elim (cases_lt d (length p)) [
  | inl h ↦ h
  | inr h ↦ absurd (n (drop_of_length-le p h))
]

module _ {C V : Type 0} (bits : C → List Bool) (depth : ℕ) where
  -- the rows before low have an unset bit next, and those from high on a set one
  pub record IsSplit (rows : List (C × V)) (low high : ℕ) : Type 0 where
    pub order : low ≤ high
    pub fits : high ≤ length rows
    pub lower : AllByRecursion (NextIs bits depth false) (take low rows)
    pub upper : AllByRecursion (NextIs bits depth true) (drop high rows)

  pub at_first : (rows : List (C × V)) → IsSplit rows 0 (length rows)
  at_first rows = record {
    order = omega arith;
    fits = omega arith;
    lower = tt;
    upper = subst (AllByRecursion (NextIs bits depth true)) (sym (drop_all rows)) tt;
  }
    where
      drop_all : (xs : List (C × V)) → drop (length xs) xs ≡ []
      drop_all [] = refl
      drop_all (x ∷ xs) = drop_all xs

  -- ---- a row at an index
  pub deep_at : (rows : List (C × V)) (m : ℕ) (r : C × V) → AreDeep bits depth rows → m < length rows → r ≡ get_or rows m r → drop depth (bits r.0) ≡ [] → ⊥
  deep_at [] m r h l e = absurd (omega arith)
  deep_at (s ∷ rows) zero r h l e = subst (λ (x : C × V). drop depth (bits x.0) ≡ [] → ⊥) (sym e) h.0
  deep_at (s ∷ rows) (suc m) r h l e = deep_at rows m r h.1 (omega arith) e

  above_at : (p : List Bool) (rows : List (C × V)) (m : ℕ) (r : C × V) → AllByRecursion (λ q. bit_cmp p q ≡ Less) (keys_of (tails bits depth rows))
      → m < length rows → r ≡ get_or rows m r → bit_cmp p (drop depth (bits r.0)) ≡ Less
  above_at p [] m r h l e = absurd (omega arith)
  above_at p (s ∷ rows) zero r h l e = subst (λ (x : C × V). bit_cmp p (drop depth (bits x.0)) ≡ Less) (sym e) h.0
  above_at p (s ∷ rows) (suc m) r h l e = above_at p rows m r h.1 (omega arith) e

  abbrev Ascending : List (C × V) → Type 0
  Ascending rows = IsStrictlySortedBy bit_cmp (keys_of (tails bits depth rows))

  -- ---- an unset bit, so for all before
  false_suc : (rows : List (C × V)) (m : ℕ) (r : C × V) → Ascending rows → AreDeep bits depth rows → m < length rows → r ≡ get_or rows m r → NextIs bits depth false r
      → AllByRecursion (NextIs bits depth false) (take (suc m) rows)
  unfolding IsStrictlySortedBy
  false_suc [] m r a h l e n = tt
  false_suc (s ∷ rows) zero r a h l e n = (subst (NextIs bits depth false) e n, tt)
  false_suc (s ∷ rows) (suc m) r a h l e n =
      let less = above_at (drop depth (bits s.0)) rows m r a.0 (omega arith) e in
      let f = below_false (drop depth (bits s.0)) (drop depth (bits r.0)) (drop (depth + 1) (bits r.0)) h.0 less n in
      (tail_bit (bits s.0) depth false f.0 f.1, false_suc rows m r a.1 h.1 (omega arith) e n)

  -- ---- a set bit, so for all behind
  true_all : (p : List Bool) (t : List Bool) (rows : List (C × V)) → AllByRecursion (λ q. bit_cmp p q ≡ Less) (keys_of (tails bits depth rows)) → p ≡ true ∷ t
      → AllByRecursion (NextIs bits depth true) rows
  true_all p t [] h e = tt
  true_all p t (s ∷ rows) h e =
      let f = above_true p (drop depth (bits s.0)) t h.0 e in
      (tail_bit (bits s.0) depth true f.0 f.1, true_all p t rows h.1 e)

  true_from : (rows : List (C × V)) (m : ℕ) (r : C × V) → Ascending rows → m < length rows → r ≡ get_or rows m r → NextIs bits depth true r
      → AllByRecursion (NextIs bits depth true) (drop m rows)
  unfolding IsStrictlySortedBy
  true_from [] m r a l e n = absurd (omega arith)
  true_from (s ∷ rows) zero r a l e n =
      let k : NextIs bits depth true s = subst (NextIs bits depth true) e n in
      (k, true_all (drop depth (bits s.0)) (drop (depth + 1) (bits s.0)) rows a.0 k)
  true_from (s ∷ rows) (suc m) r a l e n = true_from rows m r a.1 (omega arith) e n

  module _ (rows : List (C × V)) (node : IsNode bits depth rows) (deep : AreDeep bits depth rows) (low high mid : ℕ) (s : IsSplit rows low high)
      (above : low ≤ mid) (below : mid < high) (r : C × V) (is : r ≡ get_or rows mid r) where
    pub has_next : depth < length (bits r.0)
    has_next = longer_than depth (bits r.0) (deep_at rows mid r deep (omega (arith, s.fits)) is)

    pub go_down : slice_get (bits r.0) depth ≡ Some true → IsSplit rows low mid
    go_down g = record {
      order = above;
      fits = omega (arith, s.fits);
      lower = s.lower;
      upper = true_from rows mid r node.ascending (omega (arith, s.fits)) is (next_bit (bits r.0) depth true g);
    }

    pub go_up : slice_get (bits r.0) depth ≡ Some false → IsSplit rows (mid + 1) high
    go_up g = record {
      order = omega arith;
      fits = s.fits;
      lower = let e : suc mid ≡ mid + 1 = omega arith in
          subst (λ n. AllByRecursion (NextIs bits depth false) (take n rows)) e
          (false_suc rows mid r node.ascending deep (omega (arith, s.fits)) is (next_bit (bits r.0) depth false g));
      upper = s.upper;
    }

    -- the same of the row as it is read
    pub next_read : depth < length (bits (get_or rows mid r).0)
    next_read = subst (λ (x : C × V). depth < length (bits x.0)) is has_next

    pub down_read : slice_get (bits (get_or rows mid r).0) depth ≡ Some true → IsSplit rows low mid
    down_read e = go_down (subst (λ (x : C × V). slice_get (bits x.0) depth ≡ Some true) (sym is) e)

    pub up_read : slice_get (bits (get_or rows mid r).0) depth ≡ Some false → IsSplit rows (mid + 1) high
    up_read e = go_up (subst (λ (x : C × V). slice_get (bits x.0) depth ≡ Some false) (sym is) e)

  -- ---- the two parts
  highs_under : (ys : List (C × V)) → AllByRecursion (NextIs bits depth true) ys → tails bits depth ys ≡ under true (tails bits (depth + 1) ys)
  highs_under [] h = refl
  highs_under (y ∷ ys) h = ap₂ (λ p rows. (p, Some y.1) ∷ rows) h.0 (highs_under ys h.1)

  pub parts_under : (xs ys : List (C × V)) → AllByRecursion (NextIs bits depth false) xs → AllByRecursion (NextIs bits depth true) ys
      → tails bits depth (xs ++ ys) ≡ under false (tails bits (depth + 1) xs) ++ under true (tails bits (depth + 1) ys)
  parts_under [] ys h k = highs_under ys k
  parts_under (x ∷ xs) ys h k = ap₂ (λ p rows. (p, Some x.1) ∷ rows) h.0 (parts_under xs ys h.1 k)

  pub split_at : {rows : List (C × V)} {low high : ℕ} → IsSplit rows low high → high ≤ low → {lower upper : List (C × V)} → lower ≡ take low rows → upper ≡ drop low rows
      → AreHalves bits depth rows lower upper
  split_at {rows = rows} {low = low} {high = high} s h l u =
      let e : high ≡ low = omega (arith, s.order) in
      record {
        whole = sym (ap₂ (λ x y. x ++ y) l u ∙ take-append-drop low rows);
        low = subst (AllByRecursion (NextIs bits depth false)) (sym l) s.lower;
        high = subst (AllByRecursion (NextIs bits depth true)) (sym (u ∙ ap (λ n. drop n rows) (sym e))) s.upper;
      }
