-- Which addresses each rule of an access list decides.
use Rattle.std.proofs.Common.{◌≡◌, ◌≢◌, ◌↔◌, ◌⊎◌, ℕ, ◌+◌, ◌<◌, ◌≤◌, min, if◌then◌else◌, Bool, true, false, true≢false, List, [], ◌∷◌, ◌++◌, length, get_or, set, replicate, take, map, refl, sym, ap, ◌∙◌, subst, arith, inl, inr, append_assoc, append-nil, Some, Less, Equal, Greater, Ordering}
use Rattle.std.proofs.lemmas.Bool.{cases_eq, cases_lt}
use Rattle.std.proofs.lemmas.List.{get_or-replicate, get_or-set_other, get_or-set_same, get_or-take, length-take}
use Rattle.std.proofs.lemmas.List.Kept.{Contains-dedup_nat, Contains-from_dedup}
use Rattle.std.proofs.lemmas.List.Sorted.{Contains-permutation, IsPermutation-sym}
use Rattle.std.proofs.lemmas.Map.Keys.{IsStrictlyIncreasing-dedup}
use Rattle.std.specs.List.Sorted.{IsPermutation, IsSorted, IsStrictlyIncreasing}
use Rattle.std.specs.Ordering.{is_lt, nat_cmp, ordering_then}
use lib.Dec.{eqb}
use Rattle.std.proofs.lemmas.List.Elements.{Contains-append_cases, Contains-append_left, Contains-append_right, Contains-push, Contains-push_cases}
use Rattle.std.proofs.lemmas.Option.{same_Some, slice_get_within, slice_get-get_or, get_or_from_slice_get}
use Rattle.std.specs.Cmp.{IsTotalOrder, on_total}
use Rattle.std.specs.List.{Contains, dedup, slice_get}
use Rattle.cidr.specs.model.Bits.{bit_cmp}
use Rattle.cidr.specs.model.Network.{BeginsWith}
use Rattle.cidr.specs.laws.BitLaws.{bit_cmp_total}
use Rattle.cidr_table.specs.model.LastRows.{AreLastRows}
use Rattle.cidr_table.specs.model.Prefixes.{AreInside, IsLongestRow}
use Rattle.cidr_table.specs.internal.Places.{begins_with}
use Rattle.cidr_table.proofs.Beginnings.{begins_between, begins_decides, begins_length, bits_exact, not_before}
use Rattle.cidr_table.proofs.Halves.{begins_begins, begins_both, begins_itself, either_half, half_begins, length_half, same_length}
use Rattle.cidr_table.proofs.LastRows.{EndsAt, end_contains, end_of, last_row, no_key}
use Rattle.cidr_table.proofs.MapLaws.{contains_cases, contains_first, contains_later, contains_nothing}
use Rattle.cidr_table.proofs.Merging.{any_of, ascending_by_next, in_turn, upto_from}
use Rattle.cidr_table.proofs.Order.{between_halves, halves_less, less_not_itself, not_both}
use Rattle.cidr_sets.specs.model.FirstRules.{IsDeciding, IsFirstRule}
use Rattle.cidr_sets.specs.internal.Deciding.{AreRows, AreUnreached, AscendFrom, IsPart, IsPartStep, TellFirst, least}
use Rattle.cidr_sets.proofs.Algebra.{some_address}
use Rattle.cidr_sets.proofs.Cuts.{later_behind}
use Rattle.cidr_sets.proofs.FirstRules.{deciding_within}
use Rattle.cidr_sets.proofs.Steps.{not_less, one_ascends, turned}

-- ---- rules and their rows
taken : (ps : List (List Bool)) (i : ℕ) (p : List Bool) → Contains (take i ps) p → (k : ℕ) × (k < i) × (slice_get ps k ≡ Some p)
taken ps i p c =
    let below : c.0 < i = omega (arith, length-take i ps, c.1) in (
      c.0,
      below,
      slice_get-get_or ps c.0 p (omega (arith, length-take i ps, c.1)) ∙ ap Some (sym (get_or-take i ps c.0 p below) ∙ c.2),
    )

one_first : (ps : List (List Bool)) (a : List Bool) (i j : ℕ) → IsFirstRule ps a i → IsFirstRule ps a j → j ≤ i
one_first ps a i j h k = elim (cases_lt i j) [
  | inr le ↦ le
  | inl lt ↦
      let within = slice_get_within ps i h.0.0 h.0.1 in
      let size : i < length (take j ps) = omega (arith, length-take j ps, lt, within) in
      absurd (k.1 (h.0.0, (i, size, get_or-take j ps i h.0.0 lt ∙ get_or_from_slice_get ps i h.0.0 h.0.0 h.0.1), h.0.2))
]

pub first_unique : (ps : List (List Bool)) (a : List Bool) (i j : ℕ) → IsFirstRule ps a i → IsFirstRule ps a j → i ≡ j
first_unique ps a i j h k = omega (arith, one_first ps a i j h k, one_first ps a j i k h)

-- ---- the order of networks
strictly : (p q : List Bool) → bit_cmp q p ≢ Less → ¬ (BeginsWith q p) → bit_cmp p q ≡ Less
strictly p q n m = by_order (bit_cmp p q) refl
  where
    by_order : (r : Ordering) → bit_cmp p q ≡ r → bit_cmp p q ≡ Less
    by_order Less e = e
    by_order Equal e = absurd (m (subst (BeginsWith q) (sym (bits_exact p q e)) (begins_itself q)))
    by_order Greater e = absurd (n (turned p q e))

-- a network that isn't before another and not in it has none of its addresses
no_address : (p q a : List Bool) → bit_cmp q p ≢ Less → ¬ (BeginsWith q p) → BeginsWith a p → ¬ (BeginsWith a q)
no_address p q a n m b c = (later_behind p q a (strictly p q n m) m c).1 b

whole_first : (p : List Bool) (b : Bool) → bit_cmp p (p ++ b ∷ []) ≡ Less
whole_first p b =
    let half = p ++ b ∷ [] in
    not_less half [] (one_ascends half) p [] (one_ascends p)
    (λ k. omega (arith, begins_length p half k, length_half p b)) (not_before half p (half_begins p b))

-- no address is in both halves
no_both : (p a : List Bool) → BeginsWith a (p ++ false ∷ []) → ¬ (BeginsWith a (p ++ true ∷ []))
no_both p a l u = less_not_itself a (halves_less p a a l u)

module _ {C : Type 0} (f : C → List Bool) where
  pub from_behind : (p : List Bool) (gone rest : List (C × ℕ)) → AscendFrom f p (gone ++ rest) → AscendFrom f p rest
  from_behind p [] rest h = h
  from_behind p (x ∷ gone) rest h = from_behind p gone rest (λ row c. h.0 row (contains_later x row (gone ++ rest) c), h.1.1)

  pub sorted_from : (cmp : C → C → Ordering) → ((x y : C) → cmp x y ≡ bit_cmp (f x) (f y)) → (rows : List (C × ℕ))
      → IsSorted (λ x y. ordering_then (cmp x.0 y.0) (nat_cmp x.1 y.1)) rows → AscendFrom f [] rows
  sorted_from cmp ordered rows h =
      let by = λ (x y : C). bit_cmp (f x) (f y) in
      let total = on_total f bit_cmp_total in (
        λ row c. not_before (f row.0) [] refl,
        ascending_by_next by total rows (λ k d l.
            let x = get_or rows k d in
            let y = get_or rows (k + 1) d in
            sym (upto_from by total x.0 y.0 (λ q.
            true≢false (sym (ap (λ r. is_lt (ordering_then r (nat_cmp y.1 x.1))) (ordered y.0 x.0 ∙ q)) ∙ h k d (omega arith) l)))),
      )

  -- rows of which the first is x
  module _ (p : List Bool) (left behind : List (C × ℕ)) (x : C × ℕ) (split : left ≡ x ∷ behind) (from : AscendFrom f p left) where
    first_or_later : (row : C × ℕ) → Contains left row → (x ≡ row) ⊎ (bit_cmp (f row.0) (f x.0) ≢ Less)
    first_or_later row c = elim (contains_cases x row behind (subst (λ l. Contains l row) split c)) [
      | inl e ↦ inl e
      | inr d ↦ inr ((subst (AscendFrom f p) split from).1.0 row d)
    ]

    -- where it isn't in p, none is
    pub none_inside : ¬ (BeginsWith (f x.0) p) → (row : C × ℕ) → Contains left row → ¬ (BeginsWith (f row.0) p)
    none_inside m row c = elim (first_or_later row c) [
      | inl e ↦ subst (λ y. ¬ (BeginsWith (f y.0) p)) e m
      | inr n ↦ λ b. m (begins_between p (f row.0) (f x.0) b ((subst (AscendFrom f p) split from).0 x (contains_first x behind))
          (λ g. n (turned (f x.0) (f row.0) g)))
    ]

    -- where it is in p and longer, none is before the lower half
    pub lower_from : BeginsWith (f x.0) p → length p < length (f x.0) → AscendFrom f (p ++ false ∷ []) left
    lower_from b longer =
        let low = p ++ false ∷ [] in
        let first : bit_cmp (f x.0) low ≢ Less = elim (either_half (f x.0) p b longer) [
          | inl d ↦ not_before (f x.0) low d
          | inr d ↦ not_both low (f x.0) (halves_less p low (f x.0) (begins_itself low) d)
        ] in (
          λ row c. elim (first_or_later row c) [
            | inl e ↦ subst (λ y. bit_cmp (f y.0) low ≢ Less) e first
            | inr n ↦ in_turn bit_cmp bit_cmp_total low (f x.0) (f row.0) first n
          ],
          from.1,
        )

  pub rows_none : (ps : List (List Bool)) → AreRows f ps 0 []
  rows_none ps = record { here = λ row c. absurd (contains_nothing row c); each = λ j p lt. absurd (omega (arith, lt)) }

  pub rows_more : (ps : List (List Bool)) (n : ℕ) (rows : List (C × ℕ)) (c : C) → slice_get ps n ≡ Some (f c) → AreRows f ps n rows
      → AreRows f ps (n + 1) (rows ++ (c, n) ∷ [])
  rows_more ps n rows c there h = record {
    here = λ row k. elim (Contains-push_cases rows (c, n) row k) [
      | inl d ↦ let t = h.here row d in (omega (arith, t.0), t.1)
      | inr e ↦ (omega (arith, ap (λ y. y.1) e), subst (λ y. slice_get ps y.1 ≡ Some (f y.0)) e there)
    ];
    each = λ j p lt e. elim (cases_lt j n) [
      | inl below ↦ let k = h.each j p below e in (k.0, Contains-append_left rows ((c, n) ∷ []) (k.0, j) k.1, k.2)
      | inr le ↦
          let same : n ≡ j = omega (arith, lt, le) in (
            c,
            subst (λ m. Contains (rows ++ (c, n) ∷ []) (c, m)) same (Contains-push rows (c, n)),
            same_Some (f c) p (sym there ∙ ap (slice_get ps) same ∙ e),
          )
    ];
  }

  pub rows_moved : (ps : List (List Bool)) (m n : ℕ) (old new : List (C × ℕ)) → n ≤ m → length ps ≤ n → IsPermutation old new
      → AreRows f ps m old → AreRows f ps n new
  rows_moved ps m n old new le all move h = record {
    here = λ row c.
        let t = h.here row (Contains-permutation new old row (IsPermutation-sym old new move) c) in
        (omega (arith, slice_get_within ps row.1 (f row.0) t.1, all), t.1);
    each = λ j p lt e. let k = h.each j p (omega (arith, lt, le)) e in (k.0, Contains-permutation old new (k.0, j) move k.1, k.2);
  }

  -- ---- the least index
  module _ (a : List Bool) where
    kept_least : (b : Bool) (i k : ℕ) → (b ≡ true → i ≤ k) → (if b then min i k else i) ≡ i
    kept_least true i k h = omega (arith, h refl)
    kept_least false i k h = refl

    -- rows that haven't the address, or no lesser index, play no part
    pub least_kept : (x : C × ℕ) (rows : List (C × ℕ)) (i : ℕ) → (BeginsWith a (f x.0) → i ≤ x.1) → least f a i (x ∷ rows) ≡ least f a i rows
    least_kept x rows i h =
        ap (λ k. least f a k rows) (kept_least (begins_with a (f x.0)) i x.1 (λ t. h ((begins_decides a (f x.0)).0 t)))

    pub least_behind : (gone rest : List (C × ℕ)) (i : ℕ) → ((row : C × ℕ) → Contains gone row → BeginsWith a (f row.0) → i ≤ row.1)
        → least f a i (gone ++ rest) ≡ least f a i rest
    least_behind [] rest i h = refl
    least_behind (x ∷ gone) rest i h =
        least_kept x (gone ++ rest) i (h x (contains_first x gone)) ∙ least_behind gone rest i (λ row c. h row (contains_later x row gone c))

    pub least_taken : (x : C × ℕ) (rows : List (C × ℕ)) (i : ℕ) → BeginsWith a (f x.0) → x.1 < i → least f a i (x ∷ rows) ≡ least f a x.1 rows
    least_taken x rows i b lt =
        let lesser : min i x.1 ≡ x.1 = omega (arith, lt) in
        ap (λ t. least f a (if t then min i x.1 else i) rows) ((begins_decides a (f x.0)).1 b) ∙ ap (λ k. least f a k rows) lesser

    chosen_below : (b : Bool) (i k : ℕ) → (if b then min i k else i) ≤ i
    chosen_below true i k = omega arith
    chosen_below false i k = omega arith

    pub least_below : (rows : List (C × ℕ)) (i : ℕ) → least f a i rows ≤ i
    least_below [] i = omega arith
    least_below (x ∷ rows) i =
        omega (arith, least_below rows (if begins_with a (f x.0) then min i x.1 else i), chosen_below (begins_with a (f x.0)) i x.1)

    pub least_of_each : (rows : List (C × ℕ)) (i : ℕ) (row : C × ℕ) → Contains rows row → BeginsWith a (f row.0) → least f a i rows ≤ row.1
    least_of_each [] i row c b = absurd (contains_nothing row c)
    least_of_each (x ∷ rows) i row c b = elim (contains_cases x row rows c) [
      | inl e ↦
          let there = ap (λ t. least f a (if t then min i x.1 else i) rows) ((begins_decides a (f x.0)).1 (subst (λ y. BeginsWith a (f y.0)) (sym e) b)) in
          omega (arith, there, least_below rows (min i x.1), ap (λ y. y.1) e)
      | inr d ↦ least_of_each rows (if begins_with a (f x.0) then min i x.1 else i) row d b
    ]

    chosen : (b : Bool) (i k : ℕ) → ((if b then min i k else i) ≡ i) ⊎ ((b ≡ true) × (k ≡ (if b then min i k else i)))
    chosen false i k = inl refl
    chosen true i k = elim (cases_lt k i) [ inl lt ↦ inr (refl, omega (arith, lt)) | inr le ↦ inl (omega (arith, le)) ]

    -- it is this index, or that of a row
    pub least_is_one : (rows : List (C × ℕ)) (i : ℕ)
        → (least f a i rows ≡ i) ⊎ ((row : C × ℕ) × Contains rows row × BeginsWith a (f row.0) × (row.1 ≡ least f a i rows))
    least_is_one [] i = inl refl
    least_is_one (x ∷ rows) i = elim (least_is_one rows (if begins_with a (f x.0) then min i x.1 else i)) [
      | inr r ↦ inr (r.0, contains_later x r.0 rows r.1, r.2, r.3)
      | inl e ↦ elim (chosen (begins_with a (f x.0)) i x.1) [
        | inl g ↦ inl (e ∙ g)
        | inr g ↦ inr (x, contains_first x rows, (begins_decides a (f x.0)).0 g.0, g.1 ∙ sym e)
      ]
    ]

  -- ---- the parts of a network
  part_within : (p q : List Bool) (i j : ℕ) (rows left : List (C × ℕ)) (part : C × ℕ) → BeginsWith q p
      → ((a : List Bool) → BeginsWith a q → least f a i rows ≡ least f a j left) → IsPart f q j left part → IsPart f p i rows part
  part_within p q i j rows left part b same k = record {
    short = k.short;
    inside = begins_begins (f part.0) q p k.inside b;
    index = λ a c. k.index a c ∙ sym (same a (begins_begins a (f part.0) q c k.inside));
  }

  module _ (p : List Bool) (i : ℕ) where
    -- parts of what is left are parts of all rows
    abbrev pub StandsFor : ℕ → List (C × ℕ) → List (C × ℕ) → Type 0
    StandsFor j left rows = (rest old new : List (C × ℕ)) → IsPartStep f p j left rest old new → IsPartStep f p i rows rest old new

    module _ (x : C × ℕ) (behind : List (C × ℕ)) (b : BeginsWith (f x.0) p) where
      step_more : (j : ℕ) → ((a : List Bool) → BeginsWith a p → least f a i (x ∷ behind) ≡ least f a j behind) → StandsFor j behind (x ∷ behind)
      step_more j same rest old new s = record {
        gone = x ∷ s.gone;
        split = ap (λ l. x ∷ l) s.split;
        inside = λ row c. elim (contains_cases x row s.gone c) [ inl e ↦ subst (λ y. BeginsWith (f y.0) p) e b | inr d ↦ s.inside row d ];
        behind = s.behind;
        kept = s.kept;
        told = λ part c. elim (s.told part c) [
          | inl d ↦ inl d
          | inr k ↦ inr (part_within p p i j (x ∷ behind) behind part (begins_itself p) same k)
        ];
        each = s.each;
      }

      pub step_later : i ≤ x.1 → StandsFor i behind (x ∷ behind)
      step_later le = step_more i (λ a c. least_kept a x behind i (λ e. le))

      pub step_same : length (f x.0) ≤ length p → x.1 < i → StandsFor x.1 behind (x ∷ behind)
      step_same short lt = step_more x.1 (λ a c.
          least_taken a x behind i (subst (BeginsWith a) (sym (same_length (f x.0) p b short)) c) lt)

    -- a network without rows in it
    pub step_whole : (c : C) → f c ≡ p → length p ≤ 129 → (rows old : List (C × ℕ)) → AscendFrom f p rows
        → ((row : C × ℕ) → Contains rows row → ¬ (BeginsWith (f row.0) p)) → IsPartStep f p i rows rows old (old ++ (c, i) ∷ [])
    step_whole c is short rows old from none = record {
      gone = [];
      split = refl;
      inside = λ row d. absurd (contains_nothing row d);
      behind = none;
      kept = λ part d. Contains-append_left old ((c, i) ∷ []) part d;
      told = λ part d. elim (Contains-push_cases old (c, i) part d) [
        | inl e ↦ inl e
        | inr e ↦ inr (subst (IsPart f p i rows) e (record {
          short = subst (λ q. length q ≤ 129) (sym is) short;
          inside = subst (λ q. BeginsWith q p) (sym is) (begins_itself p);
          index = λ a b. sym (ap (least f a i) (sym (append-nil rows))
              ∙ least_behind a rows [] i (λ row k h. absurd (no_address p (f row.0) a (from.0 row k) (none row k) (subst (BeginsWith a) is b) h)));
        }))
      ];
      each = λ a la b. ((c, i), Contains-push old (c, i), subst (BeginsWith a) (sym is) b);
    }

    module _ (left mid old new : List (C × ℕ)) (lo : IsPartStep f (p ++ false ∷ []) i left mid old new) where
      lower_row : (row : C × ℕ) → Contains mid row → Contains left row
      lower_row row c = subst (λ l. Contains l row) (sym lo.split) (Contains-append_right lo.gone mid row c)

      pub upper_from : AscendFrom f (p ++ false ∷ []) left → AscendFrom f (p ++ true ∷ []) mid
      upper_from from =
          let low = p ++ false ∷ [] in (
            λ row c less.
                let m = lo.behind row c in
                m (between_halves p (f row.0) (strictly low (f row.0) (from.0 row (lower_row row c)) m) less),
            (from_behind low lo.gone mid (subst (AscendFrom f low) lo.split from)).1,
          )

      pub step_halves : (rest last : List (C × ℕ)) → length p < 129 → AscendFrom f (p ++ false ∷ []) left
          → IsPartStep f (p ++ true ∷ []) i mid rest new last → IsPartStep f p i left rest old last
      step_halves rest last room from up =
          let low = p ++ false ∷ [] in
          let high = p ++ true ∷ [] in
          let of_upper : (row : C × ℕ) → Contains rest row → Contains mid row = λ row c.
          subst (λ l. Contains l row) (sym up.split) (Contains-append_right up.gone rest row c) in
          record {
            gone = lo.gone ++ up.gone;
            split = lo.split ∙ ap (λ l. lo.gone ++ l) up.split ∙ sym (append_assoc lo.gone up.gone rest);
            inside = λ row c. elim (Contains-append_cases lo.gone up.gone row c) [
              | inl d ↦ begins_begins (f row.0) low p (lo.inside row d) (half_begins p false)
              | inr d ↦ begins_begins (f row.0) high p (up.inside row d) (half_begins p true)
            ];
            behind = λ row c b. elim (cases_lt (length p) (length (f row.0))) [
              | inl lt ↦ elim (either_half (f row.0) p b lt) [
                | inl d ↦ lo.behind row (of_upper row c) d
                | inr d ↦ up.behind row c d
              ]
              | inr le ↦ from.0 row (lower_row row (of_upper row c))
                  (subst (λ q. bit_cmp q low ≡ Less) (sym (same_length (f row.0) p b le)) (whole_first p false))
            ];
            kept = λ part c. up.kept part (lo.kept part c);
            told = λ part c. elim (up.told part c) [
              | inl d ↦ elim (lo.told part d) [
                | inl e ↦ inl e
                | inr k ↦ inr (part_within p low i i left left part (half_begins p false) (λ a b. refl) k)
              ]
              | inr k ↦ inr (part_within p high i i left mid part (half_begins p true) (λ a b. ap (least f a i) lo.split
                  ∙ least_behind a lo.gone mid i (λ row d e. absurd (no_both p a (begins_begins a (f row.0) low e (lo.inside row d)) b))) k)
            ];
            each = λ a la b. elim (either_half a p b (omega (arith, la, room))) [
              | inl d ↦ let k = lo.each a la d in (k.0, up.kept k.0 k.1, k.2)
              | inr d ↦ up.each a la d
            ];
          }

  -- ---- the parts of all rows
  module _ (n : ℕ) (rows : List (C × ℕ)) where
    -- the parts of the rows that are gone, before these
    pub record AreDecided (left parts : List (C × ℕ)) : Type 0 where
      pub gone : List (C × ℕ)
      pub split : rows ≡ gone ++ left
      pub apart : (row other : C × ℕ) → Contains left row → Contains gone other → (a : List Bool) → BeginsWith a (f row.0)
          → ¬ (BeginsWith a (f other.0))
      pub told : (part : C × ℕ) → Contains parts part → (part.1 < n) × IsPart f [] n rows part
      pub each : (row : C × ℕ) → Contains gone row → (a : List Bool) → length a ≡ 129 → BeginsWith a (f row.0)
          → (part : C × ℕ) × Contains parts part × BeginsWith a (f part.0)

    pub decided_none : AreDecided rows []
    decided_none = record {
      gone = [];
      split = refl;
      apart = λ row other c d. absurd (contains_nothing other d);
      told = λ part c. absurd (contains_nothing part c);
      each = λ row c. absurd (contains_nothing row c);
    }

    module _ (ps : List (List Bool)) (are : AreRows f ps n rows) where
      module _ (from : AscendFrom f [] rows) (x : C × ℕ) (behind parts : List (C × ℕ)) (h : AreDecided (x ∷ behind) parts) where
        pub behind_from : AscendFrom f (f x.0) behind
        behind_from = (from_behind [] h.gone (x ∷ behind) (subst (AscendFrom f []) h.split from)).1

        pub decided_more : (rest new : List (C × ℕ)) → IsPartStep f (f x.0) x.1 behind rest parts new → AreDecided rest new
        decided_more rest new s =
            let passed = x ∷ s.gone in
            let within : x.1 < n =
            (are.here x (subst (λ l. Contains l x) (sym h.split) (Contains-append_right h.gone (x ∷ behind) x (contains_first x behind)))).0 in
            let inside : (row : C × ℕ) → Contains passed row → BeginsWith (f row.0) (f x.0) = λ row c.
            elim (contains_cases x row s.gone c) [
              | inl e ↦ subst (λ y. BeginsWith (f y.0) (f x.0)) e (begins_itself (f x.0))
              | inr d ↦ s.inside row d
            ] in
            record {
              gone = h.gone ++ passed;
              split = h.split ∙ ap (λ l. h.gone ++ x ∷ l) s.split ∙ sym (append_assoc h.gone passed rest);
              apart = λ row other c d a b k.
                  let later = subst (λ l. Contains l row) (sym s.split) (Contains-append_right s.gone rest row c) in
                  elim (Contains-append_cases h.gone passed other d) [
                    | inl e ↦ h.apart row other (contains_later x row behind later) e a b k
                    | inr e ↦ no_address (f x.0) (f row.0) a (behind_from.0 row later) (s.behind row c)
                        (begins_begins a (f other.0) (f x.0) k (inside other e)) b
                  ];
              told = λ part c. elim (s.told part c) [
                | inl d ↦ h.told part d
                | inr k ↦
                    let (a, la, b) = some_address (f part.0) k.short in (
                      omega (arith, k.index a b, least_below a behind x.1, within),
                      part_within [] (f x.0) n x.1 rows behind part refl (λ a b. ap (least f a n) h.split
                          ∙ least_behind a h.gone (x ∷ behind) n (λ row d e. absurd (h.apart x row (contains_first x behind) d a b e))
                          ∙ least_taken a x behind n b within) k,
                    )
              ];
              each = λ row c a la b. elim (Contains-append_cases h.gone passed row c) [
                | inl d ↦ let k = h.each row d a la b in (k.0, s.kept k.0 k.1, k.2)
                | inr d ↦ s.each a la (begins_begins a (f row.0) (f x.0) b (inside row d))
              ];
            }

      least_first : (a : List Bool) (i : ℕ) → i ≡ least f a n rows → i < n → IsFirstRule ps a i
      least_first a i is within = (
        elim (least_is_one a rows n) [
          | inl e ↦ absurd (omega (arith, e, is, within))
          | inr r ↦ (f r.0.0, ap (slice_get ps) (is ∙ sym r.3) ∙ (are.here r.0 r.1).1, r.2)
        ],
        λ c.
            let (k, below, there) = taken ps i c.0 c.1 in
            let (q, in_rows, same) = are.each k c.0 (omega (arith, below, within)) there in
            omega (arith, is, below, least_of_each a rows n (q, k) in_rows (subst (BeginsWith a) (sym same) c.2)),
      )

      pub decided_all : (parts : List (C × ℕ)) → AreDecided [] parts → TellFirst f ps n parts
      decided_all parts h = record {
        short = λ part c. (h.told part c).1.short;
        first = λ part c a la b. let k = h.told part c in least_first a part.1 (k.1.index a b) k.0;
        each = λ a la j below first.
            let (c, in_rows, same) = are.each j first.0.0 below first.0.1 in
            h.each (c, j) (subst (λ l. Contains l (c, j)) (h.split ∙ append-nil h.gone) in_rows) a la (subst (BeginsWith a) (sym same) first.0.2);
      }

-- ---- the indices of rows
-- of the numbers below n, the marks are at these
abbrev pub AreMarked : ℕ → List Bool → List ℕ → Type 0
AreMarked n marks js = (j : ℕ) → j < n → (get_or marks j false ≡ true) ↔ Contains js j

pub marked_none : (n : ℕ) → AreMarked n (replicate n false) []
marked_none n j lt = (λ e. absurd (true≢false (sym e ∙ get_or-replicate n j false false lt)), λ c. absurd (contains_nothing j c))

pub marked_more : (n : ℕ) (marks : List Bool) (js : List ℕ) (i : ℕ) → i < length marks → AreMarked n marks js
    → AreMarked n (set marks i true) (js ++ i ∷ [])
marked_more n marks js i within h j lt = elim (cases_eq i j) [
  | inl e ↦ (
    λ m. subst (Contains (js ++ i ∷ [])) e (Contains-push js i),
    λ c. subst (λ k. get_or (set marks i true) k false ≡ true) e (get_or-set_same marks i true false within),
  )
  | inr n ↦
      let other = get_or-set_other marks i j true false (λ e. n (sym e)) in (
        λ m. Contains-append_left js (i ∷ []) j ((h j lt).0 (sym other ∙ m)),
        λ c. elim (Contains-push_cases js i j c) [ inl d ↦ other ∙ (h j lt).1 d | inr e ↦ absurd (n e) ],
      )
]

module _ {C : Type 0} where
  pub index_of : (rows : List (C × ℕ)) (j : ℕ) → Contains (map (λ row. row.1) rows) j → (row : C × ℕ) × Contains rows row × (row.1 ≡ j)
  index_of [] j c = absurd (contains_nothing j c)
  index_of (x ∷ rows) j c = elim (contains_cases x.1 j (map (λ row. row.1) rows) c) [
    | inl e ↦ (x, contains_first x rows, e)
    | inr d ↦ let r = index_of rows j d in (r.0, contains_later x r.0 rows r.1, r.2)
  ]

  pub of_index : (rows : List (C × ℕ)) (row : C × ℕ) → Contains rows row → Contains (map (λ row. row.1) rows) row.1
  of_index [] row c = absurd (contains_nothing row c)
  of_index (x ∷ rows) row c = elim (contains_cases x row rows c) [
    | inl e ↦ subst (λ y. Contains (map (λ row. row.1) (x ∷ rows)) y.1) e (contains_first x.1 (map (λ row. row.1) rows))
    | inr d ↦ contains_later x.1 row.1 (map (λ row. row.1) rows) (of_index rows row d)
  ]

  module _ (f : C → List Bool) (ps : List (List Bool)) (n : ℕ) (rows : List (C × ℕ)) (h : TellFirst f ps n rows) where
    pub index_within : (row : C × ℕ) → Contains rows row → row.1 < length ps
    index_within row c =
        let (a, la, b) = some_address (f row.0) (h.short row c) in
        let first = h.first row c a la b in
        slice_get_within ps row.1 first.0.0 first.0.1

    -- the rules without a row decide no address
    pub unreached_rules : (rules : List ℕ) → n ≡ length ps → ((j : ℕ) → Contains rules j ↔ ((j < n) × ¬ (Contains (map (λ row. row.1) rows) j)))
        → IsStrictlyIncreasing rules → AreUnreached ps n rules
    unreached_rules rules size are ascending = record {
      exact = λ j. (
        λ c.
            let k = (are j).0 c in (
              k.0,
              (
                omega (arith, k.0, size),
                λ a la first.
                    let r = h.each a la j k.0 first in
                    k.1 (subst (Contains (map (λ row. row.1) rows)) (first_unique ps a r.0.1 j (h.first r.0 r.1 a la r.2) first) (of_index rows r.0 r.1)),
              ),
            ),
        λ k. (are j).1 (
          k.0,
          λ c.
              let r = index_of rows j c in
              let (a, la, b) = some_address (f r.0.0) (h.short r.0 r.1) in
              k.1.1 a la (subst (IsFirstRule ps a) r.2 (h.first r.0 r.1 a la b)),
        ),
      );
      ascending = ascending;
    }

-- ---- the rows as a table
module _ {C : Type 0} (f : C → List Bool) (cmp : C → C → Ordering) (o : IsTotalOrder cmp) (exact : (x y : C) → cmp x y ≡ Equal → x ≡ y) where
  last_of : (rows : List (C × ℕ)) (row : C × ℕ) → Contains rows row → (last : C × ℕ) × EndsAt rows last × (last.0 ≡ row.0)
  last_of [] row c = absurd (contains_nothing row c)
  last_of (x ∷ rows) row c = elim (contains_cases x row rows c) [
    | inr d ↦ let r = last_of rows row d in (r.0, inr r.1, r.2)
    | inl e ↦ elim (any_of cmp x.0 rows) [
      | inl none ↦ (x, inl (refl, no_key cmp o exact x.0 rows none), ap (λ y. y.0) e)
      | inr k ↦
          let r = last_of rows k.0 k.1 in
          (r.0, inr r.1, r.2 ∙ exact k.0.0 x.0 k.2 ∙ ap (λ y. y.0) e)
    ]
  ]

  pub table_tells : (ps : List (List Bool)) (n : ℕ) (rows kept : List (C × ℕ)) → AreLastRows rows kept → TellFirst f ps n rows → TellFirst f ps n kept
  table_tells ps n rows kept same h = record {
    short = λ row c. h.short row (end_contains rows row (end_of rows row ((same row).0 c)));
    first = λ row c. h.first row (end_contains rows row (end_of rows row ((same row).0 c)));
    each = λ a la j below first.
        let r = h.each a la j below first in
        let l = last_of rows r.0 r.1 in
        (l.0, (same l.0).1 (last_row rows l.0 l.1), subst (λ x. BeginsWith a (f x)) (sym l.2) r.2);
  }

-- numbers, ascending and each once
pub sorted_once : (xs ys zs : List ℕ) → IsPermutation xs ys → IsSorted nat_cmp ys → zs ≡ dedup eqb ys
    → ((j : ℕ) → Contains zs j ↔ Contains xs j) × IsStrictlyIncreasing zs
sorted_once xs ys zs p s is = (
  λ j. (
    λ c. Contains-permutation ys xs j (IsPermutation-sym xs ys p) (Contains-from_dedup eqb ys j (subst (λ l. Contains l j) is c)),
    λ c. subst (λ l. Contains l j) (sym is) (Contains-dedup_nat ys j (Contains-permutation xs ys j p c)),
  ),
  subst IsStrictlyIncreasing (sym is) (IsStrictlyIncreasing-dedup ys s),
)

-- ---- the rules that decide the addresses of a network
module _ {C : Type 0} (f : C → List Bool) (ps : List (List Bool)) (rows : List (C × ℕ)) (h : TellFirst f ps (length ps) rows)
    (p : List Bool) (short : length p ≤ 129) where
  pub one_decides : (row : C × ℕ) → IsLongestRow f p rows row → (j : ℕ) → Contains (row.1 ∷ []) j ↔ IsDeciding 129 ps p j
  one_decides row l j = (
    λ c. elim (contains_cases row.1 j [] c) [
      | inl e ↦
          let (a, la, b) = some_address p short in
          (a, la, b, subst (IsFirstRule ps a) e (h.first row l.here a la (begins_begins a p (f row.0) b l.begins)))
      | inr d ↦ absurd (contains_nothing j d)
    ],
    λ d.
        let (a, la, b, first) = d in
        subst (Contains (row.1 ∷ []))
        (first_unique ps a row.1 j (h.first row l.here a la (begins_begins a p (f row.0) b l.begins)) first) (contains_first row.1 []),
  )

  pub inner_decide : (inner : List (C × ℕ)) → ((row : C × ℕ) → Contains rows row → ¬ (BeginsWith p (f row.0))) → AreInside f rows p inner
      → (j : ℕ) → Contains (map (λ row. row.1) inner) j ↔ IsDeciding 129 ps p j
  inner_decide inner none are j = (
    λ c.
        let r = index_of inner j c in
        let k = (are r.0).0 r.1 in
        let (a, la, b) = some_address (f r.0.0) (h.short r.0 k.0) in
        (a, la, begins_begins a (f r.0.0) p b k.1, subst (IsFirstRule ps a) r.2 (h.first r.0 k.0 a la b)),
    λ d.
        let (a, la, b, first) = d in
        let r = h.each a la j (deciding_within 129 ps p j d) first in
        let same = first_unique ps a r.0.1 j (h.first r.0 r.1 a la r.2) first in
        elim (cases_lt (length (f r.0.0)) (length p)) [
          | inl lt ↦ absurd (none r.0 r.1 (begins_both a p (f r.0.0) b r.2 (omega (arith, lt))))
          | inr le ↦ subst (Contains (map (λ row. row.1) inner)) same
              (of_index inner r.0 ((are r.0).1 (r.1, begins_both a (f r.0.0) p r.2 b le)))
        ],
  )
