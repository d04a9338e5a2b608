-- The pass over the rows: from networks as lists of bits to the first places of `out`.
use Rattle.std.proofs.Common.{◌≡◌, ℕ, ◌+◌, ◌-◌, ◌<◌, ◌≤◌, Bool, false, List, [], ◌∷◌, ◌++◌, length, get_or, set, take, map, refl, sym, ap, ◌∙◌, subst, arith, inl, inr}
use Rattle.std.proofs.lemmas.Bool.Decides.{not_from_Decides}
use Rattle.std.proofs.lemmas.List.{map_more, map_push, take_more_set, take_all, get_or_default, get_or-map}
use Rattle.std.proofs.lemmas.List.Elements.{Contains-push_cases}
use Rattle.std.proofs.lemmas.Map.Entries.{length-keys_of}
use Rattle.std.proofs.lemmas.Map.Keys.{Less-from_sorted}
use Rattle.std.specs.Bool.{Decides}
use Rattle.std.specs.List.Sorted.{IsStrictlySortedBy}
use Rattle.std.specs.Map.{keys_of}
use Rattle.std.specs.declared.cmp.Ordering.{Ordering}
use Rattle.std.specs.declared.cmp.Ordering.TheVariants.{Less}
use Rattle.cidr.specs.model.Bits.{bit_cmp}
use Rattle.cidr_table.specs.model.Cover.{Covers, CoverSame, IsLeastCover, parent}
use Rattle.cidr_table.specs.internal.CoverStack.{AreHalvesInOrder, AreBefore, IsReduced, IsPushed}
use Rattle.cidr_table.proofs.Halves.{parent_half}
use Rattle.cidr_table.proofs.Reduced.{same_itself, same_trans, back, least_alike, reduced_is_least, skip_covers, push_covers}
use Rattle.cidr_table.proofs.Refinements.{exact}
use Rattle.cidr_table.proofs.Stacks.{merged_pushed, merged_covers, merged_before}

-- ---- the last two of the first n
-- what merging keeps: the networks so far and one behind them; the same is covered, and what was behind all still is
pub record IsMerging (w : ℕ) (old new : List (List Bool)) : Type 0 where
  pub pushed : IsPushed w new
  pub same : CoverSame w new old
  pub before : (k : List Bool) → AreBefore old k → AreBefore new k

pub merging_none : (w : ℕ) (s : List (List Bool)) → IsPushed w s → IsMerging w s s
merging_none w s h = record { pushed = h; same = same_itself w s; before = λ k b. b }

-- at the end it is the least cover
pub merging_done : (w : ℕ) (old new : List (List Bool)) → IsMerging w old new → IsReduced w new → IsLeastCover w old new
merging_done w old new h k = least_alike w new old new h.same k

module _ {C : Type 0} (f : C → List Bool) (out : List C) (n : ℕ) (some : 2 ≤ n) (within : n ≤ length out) where
  pub two_last : (d e : C)
      → map f (take n out)
      ≡ (map f (take (n - 2) out) ++ f (get_or out (n - 2) d) ∷ []) ++ f (get_or out (n - 1) e) ∷ []
  two_last d e =
      let a : n ≡ n - 1 + 1 = omega arith in
      let b : n - 1 ≡ n - 2 + 1 = omega arith in
      ap (λ k. map f (take k out)) a
      ∙ map_more f out (n - 1) e (omega arith)
      ∙ ap (λ s. s ++ f (get_or out (n - 1) e) ∷ [])
      (ap (λ k. map f (take k out)) b ∙ map_more f out (n - 2) d (omega arith))

  put_last : (x : C) → map f (take (n - 1) (set out (n - 2) x)) ≡ map f (take (n - 2) out) ++ f x ∷ []
  put_last x =
      let b : n - 1 ≡ n - 2 + 1 = omega arith in
      ap (λ k. map f (take k (set out (n - 2) x))) b ∙ ap (map f) (take_more_set out (n - 2) x (omega arith))
      ∙ map_push f (take (n - 2) out) x

  pub two_read : (u v : C) → u ≡ get_or out (n - 2) u → v ≡ get_or out (n - 1) v
      → map f (take n out) ≡ (map f (take (n - 2) out) ++ f u ∷ []) ++ f v ∷ []
  two_read u v hu hv =
      let a = subst (λ (x : C). map f (take n out) ≡ (map f (take (n - 2) out) ++ f x ∷ []) ++ f
      (get_or out (n - 1) v) ∷ []) (sym hu) (two_last u v) in
      subst (λ (x : C). map f (take n out) ≡ (map f (take (n - 2) out) ++ f u ∷ []) ++ f x ∷ []) (sym hv) a

  read_same : (u t : C) → u ≡ get_or out (n - 2) u → get_or out (n - 2) t ≡ u
  read_same u t hu = get_or_default out (n - 2) t u (omega arith) ∙ sym hu

  -- the one before the last, without its last bit, as it was read several times
  pub clipped_is : (u s t x : C) (len : ℕ) → u ≡ get_or out (n - 2) u → len ≡ length (f (get_or out (n - 2) s))
      → f x ≡ take (len - 1) (f (get_or out (n - 2) t)) → f x ≡ parent (f u)
  clipped_is u s t x len hu hl h =
      h ∙ ap (λ y. take (len - 1) (f y)) (read_same u t hu)
      ∙ ap (λ k. take (k - 1) (f u)) (hl ∙ ap (λ y. length (f y)) (read_same u s hu))

  -- the halves at the end become their network
  module _ (w : ℕ) (old : List (List Bool)) (h : IsMerging w old (map f (take n out))) (u v x : C)
      (hu : u ≡ get_or out (n - 2) u) (hv : v ≡ get_or out (n - 1) v) (halves : AreHalvesInOrder (f u) (f v))
      (clipped : f x ≡ parent (f u)) where
    pub still_merging : IsMerging w old (map f (take (n - 1) (set out (n - 2) x)))
    still_merging =
        let s = map f (take n out) in
        let t = map f (take (n - 2) out) in
        let (q, first, second) = halves in
        let ends = two_read u v hu hv in
        let whole : f x ≡ q = clipped ∙ ap parent first ∙ parent_half q false in
        let merged : IsMerging w old (t ++ q ∷ []) = record {
          pushed = merged_pushed w s h.pushed t (f u) (f v) ends q first second;
          same = same_trans w (t ++ q ∷ []) s old (merged_covers w s h.pushed t (f u) (f v) ends q first second) h.same;
          before = λ k b. merged_before w s h.pushed t (f u) (f v) ends q first second k (h.before k b);
        } in
        subst (IsMerging w old) (sym (put_last x ∙ ap (λ y. t ++ y ∷ []) whole)) merged

-- ---- the networks so far, and a key behind them
pub pushed : (w : ℕ) (s : List (List Bool)) (k : List Bool) → IsReduced w s → AreBefore s k → ¬ (Covers s k)
    → length k ≤ w → IsPushed w (s ++ k ∷ [])
pushed w s k h before free within = record {
  front = s;
  top = k;
  whole = refl;
  reduced = h;
  before = before;
  apart = free;
  within = within;
}

-- the key of a row, and its place
pub key_within : {C V : Type 0} (rows : List (C × V)) (i : ℕ) → i < length rows → i < length (keys_of rows)
key_within rows i h = omega (arith, h, length-keys_of rows)

pub key_read : {C V : Type 0} (rows : List (C × V)) (i : ℕ) (row : C × V) → i < length rows → row ≡ get_or rows i row
    → row.0 ≡ get_or (keys_of rows) i row.0
key_read {C = C} {V = V} rows i row within h = ap (λ (r : C × V). r.0) h
    ∙ sym (get_or-map (λ (r : C × V). r.0) rows i row row.0 within)

module _ {C : Type 0} (f : C → List Bool) where
  pub top_split : (out : List C) (n : ℕ) (t : C) → 0 < n → n ≤ length out → t ≡ get_or out (n - 1) t
      → map f (take n out) ≡ map f (take (n - 1) out) ++ f t ∷ []
  top_split out n t some within h =
      let a : n ≡ n - 1 + 1 = omega arith in
      ap (λ k. map f (take k out)) a ∙ map_more f out (n - 1) t (omega arith)
      ∙ ap (λ (x : C). map f (take (n - 1) out) ++ f x ∷ []) (sym h)

  pub push_split : (out : List C) (n : ℕ) (x : C) → n < length out
      → map f (take (n + 1) (set out n x)) ≡ map f (take n out) ++ f x ∷ []
  push_split out n x within = ap (map f) (take_more_set out n x within) ∙ map_push f (take n out) x

  -- what the pass keeps: the least cover of the keys so far, which stands before the keys to come
  pub record IsPassed (w : ℕ) (keys out : List C) (i n : ℕ) : Type 0 where
    pub fits : n ≤ i
    pub cover : IsLeastCover w (map f (take i keys)) (map f (take n out))
    pub before : (j : ℕ) (d : C) → i ≤ j → j < length keys → AreBefore (map f (take n out)) (f (get_or keys j d))

  pub passed_none : (w : ℕ) (keys out : List C) → IsPassed w keys out 0 0
  unfolding IsStrictlySortedBy
  passed_none w keys out = record {
    fits = omega arith;
    cover = reduced_is_least w [] tt (λ p c. absurd (omega (arith, c.1))) (λ q c d. omega (arith, c.1))
        (λ p q c d b. absurd (omega (arith, c.1)));
    before = λ j d le lt p c. absurd (omega (arith, c.1));
  }

  pub passed_all : (w : ℕ) (keys out : List C) (n : ℕ) → IsPassed w keys out (length keys) n
      → IsLeastCover w (map f keys) (map f (take n out))
  passed_all w keys out n h = subst (λ (ks : List C). IsLeastCover w (map f ks) (map f (take n out)))
      (take_all (length keys) keys (omega arith)) h.cover

  module _ (cmp : C → C → Ordering) (ordered : (x y : C) → cmp x y ≡ bit_cmp (f x) (f y)) (w : ℕ)
      (keys : List C) (sorted : IsStrictlySortedBy cmp keys) (out : List C) (i n : ℕ)
      (h : IsPassed w keys out i n) (key : C) (within : i < length keys) (is : key ≡ get_or keys i key) where
    covers_seen : CoverSame w (map f (take n out)) (map f (take i keys))
    covers_seen = back w (map f (take i keys)) (map f (take n out))
        (exact w (map f (take i keys)) (map f (take n out)) h.cover)

    pub own_cover : IsReduced w (map f (take n out))
    own_cover = least_alike w (map f (take i keys)) (map f (take n out)) (map f (take n out))
        (exact w (map f (take i keys)) (map f (take n out)) h.cover) h.cover

    pub key_behind : AreBefore (map f (take n out)) (f key)
    key_behind p c = subst (λ (x : C). bit_cmp p (f x) ≡ Less) (sym is) (h.before i key (omega arith) within p c)

    key_more : map f (take (i + 1) keys) ≡ map f (take i keys) ++ f key ∷ []
    key_more = map_more f keys i key within ∙ ap (λ (x : C). map f (take i keys) ++ f x ∷ []) (sym is)

    -- the cover of one key more
    more_cover : (s t : List (List Bool)) → CoverSame w s (map f (take i keys) ++ f key ∷ []) → IsLeastCover w s t
        → IsLeastCover w (map f (take (i + 1) keys)) t
    more_cover s t same k = subst (λ x. IsLeastCover w x t) (sym key_more)
        (least_alike w s (map f (take i keys) ++ f key ∷ []) t same k)

    pub passed_skip : Covers (map f (take n out)) (f key) → IsPassed w keys out (i + 1) n
    passed_skip c = record {
      fits = omega (arith, h.fits);
      cover = more_cover (map f (take n out)) (map f (take n out))
          (skip_covers w (map f (take i keys)) (map f (take n out)) (f key) c.0 covers_seen c.1 c.2) own_cover;
      before = λ j d le lt. h.before j d (omega arith) lt;
    }

    module _ (room : n < length out) where
      pub key_pushed : (covered : Bool) → Decides covered (Covers (map f (take n out)) (f key)) → covered ≡ false
          → length (f key) ≤ w → IsPushed w (map f (take (n + 1) (set out n key)))
      key_pushed covered told free short =
          subst (IsPushed w) (sym (push_split out n key room))
          (pushed w (map f (take n out)) (f key) own_cover key_behind (not_from_Decides covered told free) short)

      later_behind : (j : ℕ) (d : C) → i + 1 ≤ j → j < length keys → bit_cmp (f key) (f (get_or keys j d)) ≡ Less
      later_behind j d le lt =
          let a : cmp (get_or keys i d) (get_or keys j d) ≡ Less = Less-from_sorted cmp keys i j d sorted
          (omega arith) lt in
          let b : key ≡ get_or keys i d = is ∙ get_or_default keys i key d within in
          sym (ordered key (get_or keys j d)) ∙ subst (λ (x : C). cmp x (get_or keys j d) ≡ Less) (sym b) a

      pub passed_push : (after : List C) (m : ℕ) → m ≤ n + 1
          → IsLeastCover w (map f (take (n + 1) (set out n key))) (map f (take m after))
          → ((k : List Bool) → AreBefore (map f (take (n + 1) (set out n key))) k → AreBefore (map f (take m after)) k)
          → IsPassed w keys after (i + 1) m
      passed_push after m fewer k before =
          let s = map f (take n out) in
          let e = push_split out n key room in
          record {
            fits = omega (arith, h.fits);
            cover = more_cover (s ++ f key ∷ []) (map f (take m after))
                (push_covers w (map f (take i keys)) s (f key) covers_seen)
                (subst (λ x. IsLeastCover w x (map f (take m after))) e k);
            before = λ j d le lt. before (f (get_or keys j d))
                (subst (λ x. AreBefore x (f (get_or keys j d))) (sym e)
                (λ p c. elim (Contains-push_cases s (f key) p c) [
                  | inl g ↦ h.before j d (omega arith) lt p g
                  | inr g ↦ subst (λ x. bit_cmp x (f (get_or keys j d)) ≡ Less) g (later_behind j d le lt)
                ]));
          }
