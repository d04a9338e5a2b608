-- All addresses of networks in normal form, in order, and the index of each.
use Rattle.std.proofs.Common.{◌≡◌, ◌≢◌, ◌↔◌, ℕ, zero, suc, ◌+◌, ◌-◌, ◌^◌, ◌<◌, ◌≤◌, Bool, List, [], ◌∷◌, ◌++◌, length, get_or, drop, map, slice_get, refl, sym, ap, ap₂, ◌∙◌, subst, arith, inl, inr, Some, None, append_assoc, length-append}
use Rattle.std.proofs.lemmas.Bool.{cases_lt, lt-leb}
use Rattle.std.proofs.lemmas.Bool.Decides.{nat_tests}
use Rattle.std.proofs.lemmas.List.{append-nil, drop_more, drop_all, drop-map, get_or_default}
use Rattle.std.proofs.lemmas.List.Elements.{Contains-append_cases, Contains-append_left, Contains-append_right}
use Rattle.std.proofs.lemmas.List.FromFn.{get_or-map-range_with_len, length-map-range_with_len}
use Rattle.std.proofs.lemmas.Map.Keys.{sorted_tail}
use Rattle.std.proofs.lemmas.Option.{slice_get-get_or}
use Rattle.std.proofs.Math.Pow.{pow_mono}
use Rattle.std.specs.List.{Contains, range_with_len}
use Rattle.std.specs.List.Sorted.{IsStrictlySortedBy}
use Rattle.std.specs.Ordering.{nat_cmp, ordering_reverse}
use Rattle.std.specs.declared.cmp.Ordering.{Ordering}
use Rattle.std.specs.declared.cmp.Ordering.TheVariants.{Less, Equal, Greater}
use Rattle.cidr.specs.model.Bits.{bits, number, bit_cmp}
use Rattle.cidr.specs.model.Network.{width_of, first_of, last_of, BeginsWith}
use Rattle.cidr.specs.laws.BitLaws.{length-bits, number-bits, number-lt, bits-number, bit_cmp-numbers, bit_cmp-bits, bit_cmp_total}
use Rattle.cidr.specs.declared.family.Family.{Family}
use Rattle.cidr.specs.declared.family.Family.TheVariants.{Ipv4, Ipv6}
use Rattle.cidr.proofs.NetworkWalks.{network_walk-exact}
use Rattle.cidr_table.specs.model.Cover.{Covers, IsReduced}
use Rattle.cidr_table.proofs.Ascending.{first_less, all_less, sorted_append}
use Rattle.cidr_table.proofs.Beginnings.{begins_length, begins_between, not_before}
use Rattle.cidr_table.proofs.Halves.{begins_both}
use Rattle.cidr_table.proofs.MapLaws.{contains_first, contains_later, contains_cases, contains_nothing}
use Rattle.cidr_table.proofs.Order.{less_not_itself}
use Rattle.cidr_table.proofs.Reduced.{HoldNoOther}
use Rattle.cidr_table.proofs.Stacks.{spread_from_reduced}
use Rattle.cidr_sets.specs.internal.AddressLists.{numbered, ends_of, addresses_in}
use Rattle.cidr_sets.specs.model.Counts.{AreAddresses, HaveCount}
use Rattle.cidr_sets.proofs.AddressWalks.{whole_ends, ends_are}

below_from_less : (m n : ℕ) → nat_cmp m n ≡ Less → m < n
below_from_less m n h = grind (arith, nat_tests)

less_from_below : (m n : ℕ) → m < n → nat_cmp m n ≡ Less
less_from_below m n h = grind (arith, nat_tests)

-- ---- the addresses of one network behind those of another
module _ (p q a b : List Bool) (in_p : BeginsWith a p) (in_q : BeginsWith b q) (less : bit_cmp p q ≡ Less) (apart : (BeginsWith q p → p ≡ q) × (BeginsWith p q → q ≡ p)) where
  not_nested : ¬ (BeginsWith b p)
  not_nested h = elim (cases_lt (length q) (length p)) [
    | inl lt ↦ less_not_itself p (subst (λ t. bit_cmp p t ≡ Less) (apart.1 (begins_both b p q h in_q (omega arith))) less)
    | inr le ↦ less_not_itself p (subst (λ t. bit_cmp p t ≡ Less) (sym (apart.0 (begins_both b q p in_q h le))) less)
  ]

  too_low : bit_cmp b p ≢ Less
  too_low h = not_before b q in_q (bit_cmp_total.trans b p q h less)

  less_of : (r : Ordering) → bit_cmp b a ≡ r → bit_cmp a b ≡ Less
  less_of Greater e = bit_cmp_total.antisymm a b ∙ ap ordering_reverse e
  less_of Less e = absurd (not_nested (begins_between p a b in_p too_low (λ g. (let d = sym e ∙ g in (cc)))))
  less_of Equal e = absurd (not_nested (begins_between p a b in_p too_low (λ g. (let d = sym e ∙ g in (cc)))))

  pub before : bit_cmp a b ≡ Less
  before = less_of (bit_cmp b a) refl

module _ (w : ℕ) where
  -- ---- one network
  in_numbered : (start n : ℕ) (a : List Bool) → Contains (map (bits w) (range_with_len start n)) a → (m : ℕ) × (a ≡ bits w m) × (start ≤ m) × (m < start + n)
  in_numbered start n a (i, within, at) =
      let low : i < n = omega (arith, length-map-range_with_len (bits w) start n) in
      let value = get_or-map-range_with_len (bits w) start n i (start + i) a low refl in
      (start + i, sym at ∙ value, omega arith, omega arith)

  pub sorted_numbered : (start n : ℕ) → start + n ≤ 2 ^ w → IsStrictlySortedBy bit_cmp (map (bits w) (range_with_len start n))
  unfolding IsStrictlySortedBy
  sorted_numbered start zero h = tt
  sorted_numbered start (suc n) h = (
    all_less (bits w start) (map (bits w) (range_with_len (start + 1) n)) (λ x c.
        let (m, e, low, high) = in_numbered (start + 1) n x c in
        subst (λ y. bit_cmp (bits w start) y ≡ Less) (sym e)
        (bit_cmp-bits w start m (omega arith) (omega arith) ∙ less_from_below start m (omega arith))),
    sorted_numbered (start + 1) n (omega arith),
  )

  sorted_none : IsStrictlySortedBy bit_cmp []
  unfolding IsStrictlySortedBy
  sorted_none = tt

  none_long : (p : List Bool) → w < length p → ends_of w p ≡ None
  none_long p long = rw (lt-leb (length p) w long) refl

  pub sorted_one : (p : List Bool) → IsStrictlySortedBy bit_cmp (numbered w (ends_of w p))
  sorted_one p = elim (cases_lt w (length p)) [
    | inl long ↦ rw (none_long p long) sorted_none
    | inr fits ↦
        let e = ends_are w p fits in
        let low = e.0 in
        let high = e.1 in
        let first = number (first_of w p) in
        let last = number (last_of w p) in
        rw (whole_ends w p fits) (sorted_numbered first (last + 1 - first) (omega arith))
  ]

  pub in_one : (p a : List Bool) → Contains (numbered w (ends_of w p)) a ↔ ((length a ≡ w) × BeginsWith a p)
  in_one p a = elim (cases_lt w (length p)) [
    | inl long ↦ rw (none_long p long) (
      λ c. absurd (contains_nothing a c),
      λ h. absurd (let size = h.0 in omega (arith, begins_length a p h.1)),
    )
    | inr fits ↦ rw (whole_ends w p fits) (network_walk-exact w p a fits)
  ]

  -- ---- several
  pub in_all : (ps : List (List Bool)) (a : List Bool) → Contains (addresses_in w ps) a ↔ ((length a ≡ w) × Covers ps a)
  in_all [] a = (λ c. absurd (contains_nothing a c), λ h. absurd (contains_nothing h.1.0 h.1.1))
  in_all (p ∷ ps) a = (
    λ c. elim (Contains-append_cases (numbered w (ends_of w p)) (addresses_in w ps) a c) [
      | inl d ↦ let h = (in_one p a).0 d in (h.0, (p, contains_first p ps, h.1))
      | inr d ↦ let h = (in_all ps a).0 d in (h.0, (h.1.0, contains_later p h.1.0 ps h.1.1, h.1.2))
    ],
    λ h. elim (contains_cases p h.1.0 ps h.1.1) [
      | inl e ↦ Contains-append_left (numbered w (ends_of w p)) (addresses_in w ps) a ((in_one p a).1 (h.0, subst (BeginsWith a) (sym e) h.1.2))
      | inr d ↦ Contains-append_right (numbered w (ends_of w p)) (addresses_in w ps) a ((in_all ps a).1 (h.0, (h.1.0, d, h.1.2)))
    ],
  )

  sorted_all : (ps : List (List Bool)) → IsStrictlySortedBy bit_cmp ps → HoldNoOther ps → IsStrictlySortedBy bit_cmp (addresses_in w ps)
  sorted_all [] s apart = sorted_none
  sorted_all (p ∷ ps) s apart =
      sorted_append (numbered w (ends_of w p)) (addresses_in w ps) (sorted_one p)
      (sorted_all ps (sorted_tail bit_cmp p ps s) (λ q r c d. apart q r (contains_later p q ps c) (contains_later p r ps d)))
      (λ a b c d.
      let h = (in_one p a).0 c in
      let k = (in_all ps b).0 d in
      let q = k.1.0 in
      let here = contains_first p ps in
      let later = contains_later p q ps k.1.1 in
      before p q a b h.1 k.1.2 (first_less p ps s q k.1.1) (apart p q here later, apart q p later here))

  pub are_all : (ps : List (List Bool)) → IsReduced 129 ps → AreAddresses w ps (addresses_in w ps)
  are_all ps h = record {
    ascending = sorted_all ps h.ascending (spread_from_reduced 129 ps h).apart;
    exact = in_all ps;
  }

  -- ---- the index of an address is not above its number
  above : (a b : List Bool) → length a ≡ w → length b ≡ w → bit_cmp a b ≡ Less → number a < number b
  above a b la lb h = below_from_less (number a) (number b) (sym (bit_cmp-numbers a b (la ∙ sym lb)) ∙ h)

  index_from : (all : List (List Bool)) (m i : ℕ) (a : List Bool) → IsStrictlySortedBy bit_cmp all
      → ((x : List Bool) → Contains all x → (length x ≡ w) × (m ≤ number x)) → slice_get all i ≡ Some a → m + i ≤ number a
  index_from [] m i a s h e = absurd (cc)
  index_from (x ∷ all) m zero a s h e =
      let same : x ≡ a = cc in
      subst (λ t. m + 0 ≤ number t) same (let low = (h x (contains_first x all)).1 in omega arith)
  index_from (x ∷ all) m (suc i) a s h e =
      let here = h x (contains_first x all) in
      let low = here.1 in
      let r = index_from all (m + 1) i a (sorted_tail bit_cmp x all s) (λ y c.
      let there = h y (contains_later x y all c) in
      let up = above x y here.0 there.0 (first_less x all s y c) in
      (there.0, omega arith)) e in
      omega arith

  module _ (ps all : List (List Bool)) (are : AreAddresses w ps all) where
    pub index_below : (i : ℕ) (a : List Bool) → slice_get all i ≡ Some a → i ≤ number a
    index_below i a e =
        let r = index_from all 0 i a are.ascending (λ x c. (((are.exact x).0 c).0, omega arith)) e in
        omega arith

    in_list : (i : ℕ) (a : List Bool) → i < length all → a ≡ get_or all i a → number a < 2 ^ w
    in_list i a here is =
        let size : length a ≡ w = ((are.exact a).0 (i, here, sym is)).0 in
        subst (λ n. number a < 2 ^ n) size (number-lt a)

    pub few : length all ≤ 2 ^ w
    few = elim (cases_lt 0 (length all)) [
      | inl some ↦
          let i = length all - 1 in
          let a = get_or all i [] in
          let here : i < length all = omega arith in
          let at = slice_get-get_or all i [] here in
          let low = index_below i a at in
          let high = in_list i a here (sym (get_or_default all i a [] here)) in
          omega arith
      | inr none ↦ omega arith
    ]

-- ---- index by index
at_behind : {X : Type 0} (xs ys : List X) (n k : ℕ) → length xs ≡ n → slice_get (xs ++ ys) (n + k) ≡ slice_get ys k
at_behind [] ys zero k e = ap (slice_get ys) (let z : 0 + k ≡ k = omega arith in z)
at_behind [] ys (suc n) k e = absurd (omega (arith, e))
at_behind (x ∷ xs) ys zero k e = absurd (omega (arith, e))
at_behind (x ∷ xs) ys (suc n) k e =
    let next : suc n + k ≡ suc (n + k) = omega arith in
    ap (slice_get (x ∷ (xs ++ ys))) next ∙ at_behind xs ys n k (omega (arith, e))

at_front : {X : Type 0} (xs ys : List X) (k : ℕ) (x : X) → slice_get xs k ≡ Some x → slice_get (xs ++ ys) k ≡ Some x
at_front [] ys k x e = absurd (cc)
at_front (y ∷ xs) ys zero x e = e
at_front (y ∷ xs) ys (suc k) x e = at_front xs ys k x e

sorted_rest : (xs ys : List (List Bool)) → IsStrictlySortedBy bit_cmp (xs ++ ys) → IsStrictlySortedBy bit_cmp ys
sorted_rest [] ys s = s
sorted_rest (x ∷ xs) ys s = sorted_rest xs ys (sorted_tail bit_cmp x (xs ++ ys) s)

module _ (w : ℕ) where
  -- the first i networks have n addresses
  pub record IsPassed (ps : List (List Bool)) (i n : ℕ) : Type 0 where
    pub front : List (List Bool)
    pub whole : addresses_in w ps ≡ front ++ addresses_in w (drop i ps)
    pub size : length front ≡ n

  -- and a is none of these
  pub record IsPassedBy (ps : List (List Bool)) (i n : ℕ) (a : List Bool) : Type 0 where
    pub passed : IsPassed ps i n
    pub none : ¬ (Contains passed.front a)

  pub passed_none : (ps : List (List Bool)) → IsPassed ps 0 0
  passed_none ps = record { front = []; whole = refl; size = refl }

  pub passed_by_none : (ps : List (List Bool)) (a : List Bool) → IsPassedBy ps 0 0 a
  unfolding passed_none
  passed_by_none ps a = record { passed = passed_none ps; none = contains_nothing a }

  pub passed_all : (ps : List (List Bool)) (i n : ℕ) → length ps ≤ i → IsPassed ps i n → length (addresses_in w ps) ≡ n
  passed_all ps i n over h =
      let rest : addresses_in w (drop i ps) ≡ [] = ap (addresses_in w) (drop_all i ps over) in
      ap length (h.whole ∙ ap (λ t. h.front ++ t) rest ∙ append-nil h.front) ∙ h.size

  pub passed_few : (ps : List (List Bool)) (i n : ℕ) → IsPassed ps i n → n ≤ length (addresses_in w ps)
  passed_few ps i n h =
      let whole = ap length h.whole ∙ length-append h.front (addresses_in w (drop i ps)) in
      let size = h.size in
      omega arith

  module _ {C : Type 0} (f : C → List Bool) (xs : List C) (i n first last : ℕ) (x : C) (h : IsPassed (map f xs) i n)
      (here : i < length xs) (is : x ≡ get_or xs i x) (fits : length (f x) ≤ w)
      (low : first ≡ number (first_of w (f x))) (high : last ≡ number (last_of w (f x))) where
    pub in_order : (first ≤ last) × (last < 2 ^ w)
    in_order = let e = ends_are w (f x) fits in (omega (arith, low, high, e.0), omega (arith, high, e.1))

    rest : addresses_in w (drop i (map f xs)) ≡ numbered w (Some (first, last)) ++ addresses_in w (drop (i + 1) (map f xs))
    rest =
        let split : drop i (map f xs) ≡ f x ∷ drop (i + 1) (map f xs) =
        drop-map f i xs ∙ ap (map f) (drop_more xs i x here ∙ ap (λ y. y ∷ drop (i + 1) xs) (sym is))
        ∙ ap (λ t. f x ∷ t) (sym (drop-map f (i + 1) xs)) in
        ap (addresses_in w) split
        ∙ ap (λ e. numbered w e ++ addresses_in w (drop (i + 1) (map f xs)))
        (whole_ends w (f x) fits ∙ ap₂ (λ a b. Some (a, b)) (sym low) (sym high))

    split : addresses_in w (map f xs) ≡ h.front ++ (numbered w (Some (first, last)) ++ addresses_in w (drop (i + 1) (map f xs)))
    split = h.whole ∙ ap (λ t. h.front ++ t) rest

    pub passed_more : (m : ℕ) → m ≡ n + (last - first + 1) → IsPassed (map f xs) (i + 1) m
    passed_more m e =
        let some = in_order.0 in
        let size = length-map-range_with_len (bits w) first (last + 1 - first) in
        record {
          front = h.front ++ numbered w (Some (first, last));
          whole = split ∙ sym (append_assoc h.front (numbered w (Some (first, last))) (addresses_in w (drop (i + 1) (map f xs))));
          size = omega (arith, length-append h.front (numbered w (Some (first, last))), size, h.size, e);
        }

    -- the addresses of this network have the next indexes
    pub at_index : (k : ℕ) → k ≤ last - first → slice_get (addresses_in w (map f xs)) (n + k) ≡ Some (bits w (first + k))
    at_index k within =
        let some = in_order.0 in
        let count = last + 1 - first in
        let block = numbered w (Some (first, last)) in
        let size = length-map-range_with_len (bits w) first count in
        let below : k < count = omega arith in
        let a = bits w (first + k) in
        let at : slice_get block k ≡ Some a = slice_get-get_or block k a (omega (arith, size)) ∙ ap (λ t. Some t) (get_or-map-range_with_len (bits w) first count k (first + k) a below refl) in
        ap (λ t. slice_get t (n + k)) split ∙ at_behind h.front (block ++ addresses_in w (drop (i + 1) (map f xs))) n k h.size
        ∙ at_front block (addresses_in w (drop (i + 1) (map f xs))) k a at

    module _ (reduced : IsReduced 129 (map f xs)) where
      pub index_fits : n + (last - first) ≤ last
      index_fits =
          let e = in_order in
          let some = e.0 in
          let lt = e.1 in
          let to : first + (last - first) ≡ last = omega arith in
          let same : number (bits w (first + (last - first))) ≡ last = ap (λ t. number (bits w t)) to ∙ number-bits w last lt in
          let r = index_below w (map f xs) (addresses_in w (map f xs)) (are_all w (map f xs) reduced) (n + (last - first)) (bits w (first + (last - first)))
          (at_index (last - first) (omega arith)) in
          omega (arith, r, same)

      -- ---- an address that is not before this network
      module _ (a : List Bool) (number_a : ℕ) (value : number_a ≡ number a) (size : length a ≡ w) where
        number_in : (b : List Bool) → Contains (numbered w (Some (first, last))) b → (first ≤ number b) × (number b ≤ last)
        number_in b c =
            let e = in_order in
            let some = e.0 in
            let lt = e.1 in
            let (m, at, down, up) = in_numbered w first (last + 1 - first) b c in
            let same : number b ≡ m = ap number at ∙ number-bits w m (omega arith) in
            (omega (arith, same), omega (arith, same))

        -- it is behind it
        pub passed_by : last < number_a → (m : ℕ) → m ≡ n + (last - first + 1) → ¬ (Contains h.front a) → IsPassedBy (map f xs) (i + 1) m a
        unfolding passed_more
        passed_by past m e none = record {
          passed = passed_more m e;
          none = λ c. elim (Contains-append_cases h.front (numbered w (Some (first, last))) a c) [
            | inl d ↦ none d
            | inr d ↦ let up = (number_in a d).1 in omega (arith, value)
          ];
        }

        -- it is before it
        pub not_there : number_a < first → ¬ (Contains h.front a) → ¬ (Covers (map f xs) a)
        not_there short none c =
            let block = numbered w (Some (first, last)) in
            let later = addresses_in w (drop (i + 1) (map f xs)) in
            let are = are_all w (map f xs) reduced in
            let sorted : IsStrictlySortedBy bit_cmp (block ++ later) = sorted_rest h.front (block ++ later) (subst (IsStrictlySortedBy bit_cmp) split are.ascending) in
            let inside : Contains (h.front ++ (block ++ later)) a = subst (λ t. Contains t a) split ((are.exact a).1 (size, c)) in
            elim (Contains-append_cases h.front (block ++ later) a inside) [
              | inl d ↦ none d
              | inr d ↦ elim (Contains-append_cases block later a d) [
                | inl k ↦ let low = (number_in a k).0 in omega (arith, value)
                | inr k ↦
                    let e = in_order in
                    let some = e.0 in
                    let lt = e.1 in
                    let count : last + 1 - first ≡ suc (last - first) = omega arith in
                    let begin : block ≡ bits w first ∷ map (bits w) (range_with_len (first + 1) (last - first)) = ap (λ m. map (bits w) (range_with_len first m)) count in
                    let start = subst (λ t. IsStrictlySortedBy bit_cmp (t ++ later)) begin sorted in
                    let up = above w (bits w first) a (length-bits w first) size
                    (first_less (bits w first) (map (bits w) (range_with_len (first + 1) (last - first)) ++ later) start a
                    (Contains-append_right (map (bits w) (range_with_len (first + 1) (last - first))) later a k)) in
                    let same = number-bits w first (omega arith) in
                    omega (arith, value, up, same)
              ]
            ]

        -- it is in it
        pub found : first ≤ number_a → number_a ≤ last → slice_get (addresses_in w (map f xs)) (n + (number_a - first)) ≡ Some a
        found down up =
            let to : first + (number_a - first) ≡ number_a = omega arith in
            at_index (number_a - first) (omega arith)
            ∙ ap (λ t. Some t) (ap (bits w) to ∙ ap (bits w) value ∙ ap (λ k. bits k (number a)) (sym size) ∙ bits-number a)

  -- none of the networks has it
  pub in_none : (ps : List (List Bool)) (i n : ℕ) (a : List Bool) (h : IsPassed ps i n) → length ps ≤ i → IsReduced 129 ps → length a ≡ w
      → ¬ (Contains h.front a) → ¬ (Covers ps a)
  in_none ps i n a h over reduced size none c =
      let rest : addresses_in w (drop i ps) ≡ [] = ap (addresses_in w) (drop_all i ps over) in
      none (subst (λ t. Contains t a) (h.whole ∙ ap (λ t. h.front ++ t) rest ∙ append-nil h.front) (((are_all w ps reduced).exact a).1 (size, c)))

-- ---- how many
pub width_fits : (family : Family) → 2 ^ width_of family ≤ 2 ^ 128
width_fits Ipv4 = let h : 32 ≤ 128 = omega arith in pow_mono h
width_fits Ipv6 = let h : 128 ≤ 128 = omega arith in pow_mono h

pub all_of_them : (family : Family) (ps all : List (List Bool)) → AreAddresses (width_of family) ps all → 2 ^ 128 ≤ length all
    → HaveCount (width_of family) ps (2 ^ 128)
all_of_them family ps all are many =
    let most = few (width_of family) ps all are in
    let top = width_fits family in
    (all, are, omega arith)

pub not_below : (sum next size : ℕ) → sum ≡ next → ¬ (sum < 2 ^ 128) → next ≤ size → 2 ^ 128 ≤ size
not_below sum next size same over most = omega (arith, over)
