-- The keys that begin the asked bits: the longest one, and those that are shorter.
use Rattle.std.proofs.Common.{◌≡◌, ◌⊎◌, sym, ◌∙◌, ap, refl, arith, inl, inr, ℕ, suc, ◌+◌, ◌-◌, ◌<◌, ◌↔◌, min, Bool, List, [], ◌∷◌, ◌++◌, length, get_or, take, drop, slice_get, Some, length-take}
use Rattle.std.proofs.Math.ListN.{set}
use Rattle.std.proofs.Math.Seq.{drop-cons, set-append_seam}
use Rattle.std.proofs.lemmas.Bool.{cases_eq, cases_lt}
use Rattle.std.proofs.lemmas.List.{append_assoc, take-take, take_all, take-append-le, drop_all, get_or_default, get_or_append_left, get_or_push, length_push, set_past, append-nil}
use Rattle.std.proofs.lemmas.List.Elements.{All-nil, All-push}
use Rattle.std.proofs.lemmas.Map.Keys.{Less-from_sorted}
use Rattle.std.proofs.lemmas.Option.{slice_get_within, get_or_from_slice_get}
use Rattle.std.specs.List.{Contains}
use Rattle.std.specs.List.Sorted.{IsStrictlyIncreasing, IsStrictlySortedBy}
use Rattle.std.specs.declared.cmp.Ordering.{Ordering}
use Rattle.std.specs.declared.cmp.Ordering.TheVariants.{Less, Equal}
use Rattle.cidr.specs.model.Bits.{bit_cmp}
use Rattle.cidr.specs.model.Network.{BeginsWith}
use Rattle.cidr.proofs.BothEnds.{contains_got}
use Rattle.cidr_table.specs.model.Prefixes.{IsLongestAt}
use Rattle.cidr_table.proofs.Beginnings.{begins_first, begins_length, bits_same, not_before}
use Rattle.cidr_table.proofs.Halves.{begins_begins, begins_both, same_length}
use Rattle.cidr_table.proofs.MapLaws.{contains_nothing}
use Rattle.cidr_rows.proofs.ByBits.{sorted_keys}
use Rattle.cidr_rows.specs.Around.{AreCovering, AreCoveringPut, put_in}

-- a list grows at its end
contains_left : (xs : List ℕ) (y i : ℕ) → Contains xs i → Contains (xs ++ y ∷ []) i
contains_left xs y i c = (c.0, omega (arith, c.1, length_push xs y), get_or_append_left xs (y ∷ []) i c.0 c.1 ∙ c.2)

contains_last : (xs : List ℕ) (y : ℕ) → Contains (xs ++ y ∷ []) y
contains_last xs y = (length xs, omega (arith, length_push xs y), get_or_push xs y y (length xs) refl)

contains_either : (xs : List ℕ) (y i : ℕ) → Contains (xs ++ y ∷ []) i → Contains xs i ⊎ (i ≡ y)
contains_either xs y i c = elim (cases_lt c.0 (length xs)) [
  | inl lt ↦ inl (c.0, lt, sym (get_or_append_left xs (y ∷ []) i c.0 lt) ∙ c.2)
  | inr le ↦
      let last : length xs ≡ c.0 = omega (arith, c.1, length_push xs y) in
      inr (sym c.2 ∙ get_or_push xs y i c.0 last)
]

pub increasing_pushed : (xs : List ℕ) (y : ℕ) → IsStrictlyIncreasing xs → ((i : ℕ) → Contains xs i → i < y) → IsStrictlyIncreasing (xs ++ y ∷ [])
increasing_pushed xs y up below k l = elim (cases_lt (k + 1) (length xs)) [
  | inl lt ↦ rw (get_or_append_left xs (y ∷ []) 0 k (omega arith), get_or_append_left xs (y ∷ []) 0 (k + 1) lt) (up k lt)
  | inr le ↦
      let last : length xs ≡ k + 1 = omega (arith, length_push xs y) in
      rw (get_or_append_left xs (y ∷ []) 0 k (omega arith), get_or_push xs y 0 (k + 1) last)
      (below (get_or xs k 0) (k, omega arith, get_or_default xs k (get_or xs k 0) 0 (omega arith)))
]

-- a list in a room grows at its end
pub put_more : {X : Type 0} (list room : List X) (y : X) → set (put_in list room) (length list) y ≡ put_in (list ++ y ∷ []) room
put_more list room y = elim (cases_lt (length list) (length room)) [
  | inl lt ↦
      let whole : take (length room) list ≡ list = take_all (length room) list (omega arith) in
      let more : take (length room) (list ++ y ∷ []) ≡ list ++ y ∷ [] = take_all (length room) (list ++ y ∷ []) (omega (arith, length_push list y)) in
      let on : suc (length list) ≡ length list + 1 = omega arith in
      let behind : drop (length list) room ≡ get_or room (length list) y ∷ drop (length list + 1) room = drop-cons room (length list) y lt ∙ ap (λ k. get_or room (length list) y ∷ drop k room) on in
      rw (whole, more, length_push list y, behind, set-append_seam list (get_or room (length list) y) (drop (length list + 1) room) y)
      (sym (append_assoc list (y ∷ []) (drop (length list + 1) room)))
  | inr le ↦
      let none : drop (length list) room ≡ [] = drop_all (length list) room le in
      let none2 : drop (length (list ++ y ∷ [])) room ≡ [] = drop_all (length (list ++ y ∷ [])) room (omega (arith, length_push list y)) in
      let cut : take (length room) (list ++ y ∷ []) ≡ take (length room) list = take-append-le (length room) list (y ∷ []) le in
      rw (none, none2, cut, append-nil (take (length room) list))
      (set_past (take (length room) list) (length list) y (omega (arith, length-take (length room) list)))
]

module _ {C : Type 0} (cmp : C → C → Ordering) (bits : C → List Bool) (ordered : (x y : C) → cmp x y ≡ bit_cmp (bits x) (bits y))
    (keys : List C) (sorted : IsStrictlySortedBy cmp keys) (asked : List Bool) where
  -- those that are shorter than a length
  pub record AreShorter (len : ℕ) (indexes : List ℕ) : Type 0 where
    pub ascending : IsStrictlyIncreasing indexes
    pub exact : (i : ℕ) → Contains indexes i ↔ ((key : C) × (slice_get keys i ≡ Some key) × BeginsWith asked (bits key) × (length (bits key) < len))

  pub none_shorter : AreShorter 0 []
  none_shorter = record {
    ascending = λ k l. absurd (omega (arith, l));
    exact = λ i. (λ c. absurd (contains_nothing i c), λ h. absurd (omega (arith, h.3)));
  }

  pub shorter_ones : (len : ℕ) (indexes : List ℕ) → 0 < len → AreCovering bits (take (len - 1) asked) keys indexes → AreShorter len indexes
  shorter_ones len indexes some h = record {
    ascending = h.ascending;
    exact = λ i. (
      λ c.
          let at = (h.exact i).0 c in
          let few = begins_length (take (len - 1) asked) (bits at.0) at.2 in (
            at.0,
            at.1,
            begins_begins asked (take (len - 1) asked) (bits at.0) (begins_first (len - 1) asked) at.2,
            omega (arith, few, length-take (len - 1) asked),
          ),
      λ at. (h.exact i).1 (at.0, at.1, take-take (length (bits at.0)) (len - 1) asked (omega (arith, at.3)) ∙ at.2),
    );
  }

  -- no longer one stands at or behind the place of one that begins the same bits
  before_longer : (i j : ℕ) (k key : C) → slice_get keys i ≡ Some k → slice_get keys j ≡ Some key → BeginsWith asked (bits k) → BeginsWith asked (bits key)
      → length (bits k) < length (bits key) → i < j
  before_longer i j k key at there b begins less = elim (cases_lt i j) [
    | inl lt ↦ lt
    | inr le ↦ elim (cases_eq i j) [
      | inl e ↦
          let same : k ≡ key = sym (get_or_from_slice_get keys i k k at) ∙ (ap (λ n. get_or keys n k) e ∙ get_or_from_slice_get keys j key k there) in
          absurd (omega (arith, ap (λ x. length (bits x)) same, less))
      | inr n ↦
          let up : cmp (get_or keys j k) (get_or keys i k) ≡ Less = Less-from_sorted cmp keys j i k sorted (omega arith) (slice_get_within keys i k at) in
          let up2 : cmp key k ≡ Less = rw (get_or_from_slice_get keys j key k there, get_or_from_slice_get keys i k k at) at up in
          absurd (not_before (bits key) (bits k) (begins_both asked (bits key) (bits k) begins b (omega arith)) (sym (ordered key k) ∙ up2))
    ]
  ]

  -- of one length there is one
  same_place : (i j : ℕ) (k key : C) → slice_get keys i ≡ Some k → slice_get keys j ≡ Some key → bits k ≡ bits key → i ≡ j
  same_place i j k key at there same = elim (cases_eq i j) [
    | inl e ↦ e
    | inr n ↦ elim (cases_lt i j) [
      | inl lt ↦
          let up : cmp (get_or keys i k) (get_or keys j k) ≡ Less = Less-from_sorted cmp keys i j k sorted lt (slice_get_within keys j key there) in
          let up2 : cmp k key ≡ Less = rw (get_or_from_slice_get keys i k k at, get_or_from_slice_get keys j key k there) at up in
          let equal : cmp k key ≡ Equal = ordered k key ∙ rw same (bits_same (bits key)) in
          let f = sym up2 ∙ equal in (cc)
      | inr le ↦
          let up : cmp (get_or keys j k) (get_or keys i k) ≡ Less = Less-from_sorted cmp keys j i k sorted (omega arith) (slice_get_within keys i k at) in
          let up2 : cmp key k ≡ Less = rw (get_or_from_slice_get keys j key k there, get_or_from_slice_get keys i k k at) at up in
          let equal : cmp key k ≡ Equal = ordered key k ∙ rw same (bits_same (bits key)) in
          let f = sym up2 ∙ equal in (cc)
    ]
  ]

  -- the longest one behind those that are shorter
  pub with_longest : (index : ℕ) (h : IsLongestAt bits asked keys index) (indexes : List ℕ) → AreShorter (length (bits h.key)) indexes
      → AreCovering bits asked keys (indexes ++ index ∷ [])
  with_longest index h indexes s = record {
    ascending = increasing_pushed indexes index s.ascending (λ i c.
        let at = (s.exact i).0 c in
        before_longer i index at.0 h.key at.1 h.here at.2 h.begins at.3);
    exact = λ i. (
      λ c. elim (contains_either indexes index i c) [
        | inl before ↦ let at = (s.exact i).0 before in (at.0, at.1, at.2)
        | inr e ↦ (h.key, rw e h.here, h.begins)
      ],
      λ at.
          let most = h.longest at.0 (contains_got keys i at.0 at.1) at.2 in
          elim (cases_lt (length (bits at.0)) (length (bits h.key))) [
            | inl lt ↦ contains_left indexes index i ((s.exact i).1 (at.0, at.1, at.2, lt))
            | inr le ↦
                let same : bits h.key ≡ bits at.0 = same_length (bits h.key) (bits at.0) (begins_both asked (bits h.key) (bits at.0) h.begins at.2 most) (omega arith) in
                rw (same_place i index at.0 h.key at.1 h.here (sym same)) (contains_last indexes index)
          ],
    );
  }

  none_covering : ((key : C) → Contains keys key → ¬ (BeginsWith asked (bits key))) → AreCovering bits asked keys []
  none_covering none = record {
    ascending = λ k l. absurd (omega (arith, l));
    exact = λ i. (λ c. absurd (contains_nothing i c), λ at. absurd (none at.0 (contains_got keys i at.0 at.1) at.2));
  }

-- what is put into a room
put_nothing : {X : Type 0} (room : List X) → room ≡ put_in [] room
put_nothing [] = refl
put_nothing (x ∷ room) = refl

module _ {C : Type 0} (cmp : C → C → Ordering) (bits : C → List Bool) (ordered : (x y : C) → cmp x y ≡ bit_cmp (bits x) (bits y))
    (keys : List C) (asked : List Bool) where
  pub none_found : (room : List ℕ) → (IsStrictlySortedBy cmp keys → (key : C) → Contains keys key → ¬ (BeginsWith asked (bits key)))
      → AreCoveringPut bits asked keys room room 0
  none_found room none = record {
    indexes = [];
    within = All-nil (λ (i : ℕ). i < length keys);
    most = omega arith;
    covering = λ s. let t = sorted_keys cmp bits ordered keys s in none_covering cmp bits ordered keys t asked (none t);
    put = put_nothing room;
    counted = refl;
  }

  module _ (index : ℕ) (within : index < length keys) (longest : IsStrictlySortedBy cmp keys → IsLongestAt bits asked keys index)
      (key : C) (there : (other : C) → get_or keys index other ≡ key) (len : ℕ) (least : len ≡ min (length (bits key)) (length asked)) where
    -- the length is that of the longest key
    length_is : (s : IsStrictlySortedBy cmp keys) → length (bits (longest s).key) ≡ len
    length_is s =
        let h = longest s in
        let same : h.key ≡ key = sym (get_or_from_slice_get keys index h.key h.key h.here) ∙ there h.key in
        omega (arith, ap (λ k. length (bits k)) same, begins_length asked (bits h.key) h.begins, least)

    pub one_found : (old new : List ℕ) (count : ℕ) → len ≡ 0 → new ≡ set old 0 index → count ≡ 1 → AreCoveringPut bits asked keys old new count
    one_found old new count none is one = record {
      indexes = index ∷ [];
      within = All-push (λ (i : ℕ). i < length keys) [] index (All-nil (λ (i : ℕ). i < length keys)) within;
      most = omega arith;
      covering = λ s.
          let t = sorted_keys cmp bits ordered keys s in
          with_longest cmp bits ordered keys t asked index (longest t) []
          (rw (length_is t ∙ none) (none_shorter cmp bits ordered keys t asked));
      put = is ∙ (ap (λ l. set l 0 index) (put_nothing old) ∙ put_more [] old index);
      counted = one;
    }

    pub more_found : (shorter : List Bool) → 0 < len → shorter ≡ take (len - 1) asked → (old mid new : List ℕ) (before count : ℕ)
        → AreCoveringPut bits shorter keys old mid before → new ≡ set mid before index → count ≡ before + 1
        → AreCoveringPut bits asked keys old new count
    more_found shorter some cut old mid new before count h is one = record {
      indexes = h.indexes ++ index ∷ [];
      within = All-push (λ (i : ℕ). i < length keys) h.indexes index h.within within;
      most = omega (arith, h.most, length_push h.indexes index, ap length cut, length-take (len - 1) asked, least);
      covering = λ s.
          let t = sorted_keys cmp bits ordered keys s in
          with_longest cmp bits ordered keys t asked index (longest t) h.indexes
          (rw (length_is t) (shorter_ones cmp bits ordered keys t asked len h.indexes some (rw cut at (h.covering s))));
      put = is ∙ (ap (λ l. set l before index) h.put ∙ (ap (λ k. set (put_in h.indexes old) k index) h.counted ∙ put_more h.indexes old index));
      counted = one ∙ (ap (λ k. k + 1) h.counted ∙ sym (length_push h.indexes index));
    }
