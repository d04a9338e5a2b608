-- Which rows of a prefix list decide nothing, one length at a time.
use Rattle.std.proofs.Common.{◌≡◌, ◌≢◌, ◌↔◌, ℕ, zero, suc, ◌+◌, ◌-◌, ◌<◌, ◌≤◌, Bool, true, false, cond, List, [], ◌∷◌, ◌++◌, length, take, drop, get_or, set, replicate, map, refl, sym, ap, ◌∙◌, subst, arith, inl, inr, Some, Result, Ok, Err}
use Rattle.std.proofs.lemmas.Bool.{cases_eq, cases_lt, false≢true}
use Rattle.std.proofs.lemmas.List.{take-append-drop, drop_more, take_at, map-append, length-append, length-map, length-take, length-replicate, get_or-take, get_or_default}
use Rattle.std.proofs.lemmas.List.Sorted.{searched}
use Rattle.std.proofs.lemmas.Option.{same_Some, slice_get_within, slice_get-get_or, get_or_from_slice_get}
use Rattle.std.specs.Bool.{Decides}
use Rattle.std.specs.List.{Contains, slice_get}
use Rattle.std.specs.List.Sorted.{IsBinarySearchResult, IsStrictlyIncreasing}
use Rattle.std.specs.Ordering.{nat_cmp}
use Rattle.std.specs.Result.{is_ok}
use Rattle.cidr.specs.model.Network.{BeginsWith}
use Rattle.cidr_table.specs.model.Cover.{Covers}
use Rattle.cidr_table.proofs.Beginnings.{begins_length}
use Rattle.cidr_table.proofs.MapLaws.{contains_first, contains_later, contains_cases, contains_nothing}
use Rattle.cidr_sets.specs.model.FirstRules as access
use Rattle.cidr_routes.specs.declared.lists.Row.{Row}
use Rattle.cidr_routes.specs.Lengths.{AreMarkedBelow, DecidesNoneBelow, DecidesNoneOf, has_length, rules_of}
use Rattle.cidr_routes.specs.PrefixLists.{IsDecidedBy, IsShadowed, Matches}
use Rattle.cidr_routes.proofs.Lengths.{begins_short, length_first, length_tells, longer, longer_first, longer_length, matches_where, passes, rule_of, rules_append, rules_more, true_or}

-- ---- numbers that ascend
rising : (xs : List ℕ) → IsStrictlyIncreasing xs → (i j : ℕ) → i ≤ j → j < length xs → get_or xs i 0 ≤ get_or xs j 0
rising xs up i zero le l = let e : i ≡ 0 = omega arith in subst (λ k. get_or xs i 0 ≤ get_or xs k 0) e (omega arith)
rising xs up i (suc j) le l = elim (cases_lt j i) [
  | inl lt ↦ let e : i ≡ suc j = omega arith in subst (λ k. get_or xs i 0 ≤ get_or xs k 0) e (omega arith)
  | inr short ↦
      let before = rising xs up i j short (omega arith) in
      let step : get_or xs j 0 < get_or xs (j + 1) 0 = up j (omega arith) in
      let last : get_or xs (suc j) 0 ≡ get_or xs (j + 1) 0 = ap (λ k. get_or xs k 0) (omega arith) in
      omega (arith, before, step, last)
]

-- ---- one more row
below_other : (i k : ℕ) → k ≢ i → k < i + 1 → k < i
below_other i k n lt = elim (cases_lt k i) [
  | inl below ↦ below
  | inr le ↦ absurd (n (omega arith))
]

contains_taken : {X : Type 0} (xs : List X) (i : ℕ) (x : X) → Contains (take i xs) x → Contains xs x
contains_taken xs i x c =
    let l = length-take i xs in
    let below : c.0 < i = omega (arith, l, c.1) in
    (c.0, omega (arith, l, c.1), sym (get_or-take i xs c.0 x below) ∙ c.2)

contains_at : {X : Type 0} (xs : List X) (i : ℕ) (x : X) → slice_get xs i ≡ Some x → Contains xs x
contains_at xs i x e = (i, slice_get_within xs i x e, get_or_from_slice_get xs i x x e)

slice_at : {X : Type 0} (xs : List X) (y : X) (ys : List X) → slice_get (xs ++ y ∷ ys) (length xs) ≡ Some y
slice_at [] y ys = refl
slice_at (x ∷ xs) y ys = slice_at xs y ys

set_there : {X : Type 0} (xs : List X) (i : ℕ) (v : X) → i < length xs → slice_get (set xs i v) i ≡ Some v
set_there [] i v l = absurd (omega arith)
set_there (x ∷ xs) zero v l = refl
set_there (x ∷ xs) (suc i) v l = set_there xs i v (omega arith)

set_elsewhere : {X : Type 0} (xs : List X) (i k : ℕ) (v : X) → k ≢ i → slice_get (set xs i v) k ≡ slice_get xs k
set_elsewhere [] i k v n = refl
set_elsewhere (x ∷ xs) zero zero v n = absurd (n refl)
set_elsewhere (x ∷ xs) zero (suc k) v n = refl
set_elsewhere (x ∷ xs) (suc i) zero v n = refl
set_elsewhere (x ∷ xs) (suc i) (suc k) v n = set_elsewhere xs i k v (λ e. n (ap suc e))

slice_replicated : {X : Type 0} (n : ℕ) (v : X) (i : ℕ) → i < n → slice_get (replicate n v) i ≡ Some v
slice_replicated zero v i l = absurd (omega arith)
slice_replicated (suc n) v zero l = refl
slice_replicated (suc n) v (suc i) l = slice_replicated n v i (omega arith)

module _ {C : Type 0} (bits : C → List Bool) where
  -- ---- rows that are first, and rules
  abbrev pub networks_of : ℕ → List (Row C) → List (List Bool)
  networks_of len rows = map (λ r. bits r.network) (rules_of bits len rows)

  abbrev SomeMatches : List (Row C) → List Bool → Type 0
  SomeMatches rows p = (row : Row C) × Contains rows row × Matches bits row p

  decided_row : (rows : List (Row C)) (p : List Bool) (i : ℕ) (row : Row C) → slice_get rows i ≡ Some row → IsDecidedBy bits rows p i → Matches bits row p
  decided_row rows p i row at d = subst (λ r. Matches bits r p) (same_Some d.0.0 row (sym d.0.1 ∙ at)) d.0.2

  -- a row that isn't about the length decides none of it
  pub other_length : (len : ℕ) (rows : List (Row C)) (i : ℕ) (row : Row C) → slice_get rows i ≡ Some row → has_length bits len row ≡ false
      → DecidesNoneOf bits len rows i
  other_length len rows i row at differs p e d =
      let m = decided_row rows p i row at d in
      let b = begins_length p (bits row.network) m.0 in
      false≢true (sym differs ∙ (length_tells bits len row).1 (omega (arith, b, e), omega (arith, m.1, e), omega (arith, m.2, e)))

  module _ (len : ℕ) (fits : len ≤ 129) where
    covers_matches : (a : List Bool) → length a ≡ 129 → (rows : List (Row C)) → Covers (networks_of len rows) a ↔ SomeMatches rows (take len a)
    covers_matches a la [] = (λ c. absurd (contains_nothing c.0 c.1), λ h. absurd (contains_nothing h.0 h.1))
    covers_matches a la (row ∷ rows) =
        let rest = covers_matches a la rows in
        elim (has_length bits len row) as (λ t. has_length bits len row ≡ t
        → Covers (map (λ r. bits r.network) (cond t (rule_of bits row ∷ rules_of bits len rows) (rules_of bits len rows))) a
        ↔ SomeMatches (row ∷ rows) (take len a)) [
          | true ↦ λ q.
              let m = matches_where bits len fits a la row ((length_tells bits len row).0 q) in (
                λ c. elim (contains_cases (bits row.network) c.0 (networks_of len rows) c.1) [
                  | inl e ↦ (row, contains_first row rows, m.1 (subst (BeginsWith a) (sym e) c.2))
                  | inr d ↦ let k = rest.0 (c.0, d, c.2) in (k.0, contains_later row k.0 rows k.1, k.2)
                ],
                λ h. elim (contains_cases row h.0 rows h.1) [
                  | inl e ↦ (bits row.network, contains_first (bits row.network) (networks_of len rows), m.0 (subst (λ r. Matches bits r (take len a)) (sym e) h.2))
                  | inr d ↦ let k = rest.1 (h.0, d, h.2) in (k.0, contains_later (bits row.network) k.0 (networks_of len rows) k.1, k.2)
                ],
              )
          | false ↦ λ q.
              let n = passes bits len fits a la row (λ h. false≢true (sym q ∙ (length_tells bits len row).1 h)) in (
                λ c. let k = rest.0 c in (k.0, contains_later row k.0 rows k.1, k.2),
                λ h. elim (contains_cases row h.0 rows h.1) [
                  | inl e ↦ absurd (n (subst (λ r. Matches bits r (take len a)) (sym e) h.2))
                  | inr d ↦ rest.1 (h.0, d, h.2)
                ],
              )
        ] refl

    -- the row at an index, which is about the length, and its rule
    module _ (rows : List (Row C)) (i : ℕ) (row : Row C) (here : i < length rows) (is : row ≡ get_or rows i row) (has : has_length bits len row ≡ true) where
      there : slice_get rows i ≡ Some row
      there = slice_get-get_or rows i row here ∙ ap Some (sym is)

      behind : List (List Bool)
      behind = networks_of len (drop (i + 1) rows)

      split_rows : rows ≡ take i rows ++ row ∷ drop (i + 1) rows
      split_rows = sym (take-append-drop i rows)
          ∙ ap (λ t. take i rows ++ t) (drop_more rows i row here ∙ ap (λ x. x ∷ drop (i + 1) rows) (sym is))

      split_rules : rules_of bits len rows ≡ rules_of bits len (take i rows) ++ rule_of bits row ∷ rules_of bits len (drop (i + 1) rows)
      split_rules =
          ap (rules_of bits len) split_rows ∙ (rules_append bits len (take i rows) (row ∷ drop (i + 1) rows)
          ∙ ap (λ b. rules_of bits len (take i rows)
          ++ cond b (rule_of bits row ∷ rules_of bits len (drop (i + 1) rows)) (rules_of bits len (drop (i + 1) rows))) has)

      split_networks : networks_of len rows ≡ networks_of len (take i rows) ++ bits row.network ∷ networks_of len (drop (i + 1) rows)
      split_networks =
          ap (map (λ r. bits r.network)) split_rules
          ∙ map-append (λ r. bits r.network) (rules_of bits len (take i rows)) (rule_of bits row ∷ rules_of bits len (drop (i + 1) rows))

      same_length : length (networks_of len (take i rows)) ≡ length (rules_of bits len (take i rows))
      same_length = length-map (rules_of bits len (take i rows)) (λ r. bits r.network)

      rule_there : slice_get (networks_of len rows) (length (rules_of bits len (take i rows))) ≡ Some (bits row.network)
      rule_there =
          ap (λ ps. slice_get ps (length (rules_of bits len (take i rows)))) split_networks
          ∙ subst (λ n. slice_get (networks_of len (take i rows) ++ bits row.network ∷ networks_of len (drop (i + 1) rows)) n ≡ Some (bits row.network)) same_length
          (slice_at (networks_of len (take i rows)) (bits row.network) (networks_of len (drop (i + 1) rows)))

      rules_before : take (length (rules_of bits len (take i rows))) (networks_of len rows) ≡ networks_of len (take i rows)
      rules_before =
          ap (take (length (rules_of bits len (take i rows)))) split_networks
          ∙ take_at (networks_of len (take i rows)) (bits row.network ∷ networks_of len (drop (i + 1) rows)) (length (rules_of bits len (take i rows))) same_length

      first_decides : (a : List Bool) → length a ≡ 129
          → access.IsFirstRule (networks_of len rows) a (length (rules_of bits len (take i rows))) ↔ IsDecidedBy bits rows (take len a) i
      first_decides a la =
          let m = matches_where bits len fits a la row ((length_tells bits len row).0 has) in
          let before = covers_matches a la (take i rows) in (
            λ h. (
              (row, there, m.1 (subst (BeginsWith a) (same_Some h.0.0 (bits row.network) (sym h.0.1 ∙ rule_there)) h.0.2)),
              λ r k q. h.1 (subst (λ ps. Covers ps a) (sym rules_before) (before.1 (r, k, q))),
            ),
            λ d. (
              (bits row.network, rule_there, m.0 (decided_row rows (take len a) i row there d)),
              λ c. let k = before.0 (subst (λ ps. Covers ps a) rules_before c) in d.1 k.0 k.1 k.2,
            ),
          )

      pub passed_decides : access.IsShadowed 129 (networks_of len rows) (length (rules_of bits len (take i rows))) ↔ DecidesNoneOf bits len rows i
      passed_decides = (
        λ s p e d.
            let l : length (longer p) ≡ 129 = longer_length p (omega (arith, e, fits)) in
            let first : take len (longer p) ≡ p = subst (λ n. take n (longer p) ≡ p) e (longer_first p) in
            s.1 (longer p) l ((first_decides (longer p) l).1 (subst (λ q. IsDecidedBy bits rows q i) (sym first) d)),
        λ none. (
          slice_get_within (networks_of len rows) (length (rules_of bits len (take i rows))) (bits row.network) rule_there,
          λ a la f. none (take len a) (length_first a len la fits) ((first_decides a la).0 f),
        ),
      )

  module _ (len : ℕ) (rows : List (Row C)) (i : ℕ) (row : Row C) (here : i < length rows) (is : row ≡ get_or rows i row) where
    pub count_more : length (rules_of bits len (take (i + 1) rows)) ≡ length (rules_of bits len (take i rows)) + cond (has_length bits len row) 1 0
    count_more = ap (λ rs. length rs) (rules_more bits len rows i row here is)
        ∙ (length-append (rules_of bits len (take i rows)) (rules_of bits len (row ∷ []))
        ∙ ap (λ n. length (rules_of bits len (take i rows)) + n) (one_counts (has_length bits len row)))
      where
        one_counts : (b : Bool) → length (cond b (rule_of bits row ∷ []) []) ≡ cond b 1 0
        one_counts true = refl
        one_counts false = refl

    -- what a row is told by its rule
    pub idle_told : len ≤ 129 → (passed : List ℕ) → ((j : ℕ) → Contains passed j ↔ access.IsShadowed 129 (networks_of len rows) j)
        → (has : Bool) → has_length bits len row ≡ has → (rule : ℕ) → rule ≡ length (rules_of bits len (take i rows))
        → (has ≡ true → Contains passed rule) ↔ DecidesNoneOf bits len rows i
    idle_told fits passed tells has told rule at = elim (true_or has) [
      | inl t ↦
          let d = passed_decides len fits rows i row here is (told ∙ t) in (
            λ f. d.0 ((tells (length (rules_of bits len (take i rows)))).0 (subst (Contains passed) at (f t))),
            λ n _. subst (Contains passed) (sym at) ((tells (length (rules_of bits len (take i rows)))).1 (d.1 n)),
          )
      | inr f ↦ (
        λ _. other_length len rows i row (slice_get-get_or rows i row here ∙ ap Some (sym is)) (told ∙ f),
        λ n t. absurd (false≢true (sym f ∙ t)),
      )
    ]

  -- ---- lengths at which no row begins or ends
  module _ (len : ℕ) (pos : 0 < len) (p : List Bool) (is : length p ≡ len) where
    shorter_length : length (take (len - 1) p) ≡ len - 1
    shorter_length = let e = length-take (len - 1) p in omega (arith, e, is)

    pub shorter_matches : (row : Row C) → has_length bits len row ≡ has_length bits (len - 1) row → Matches bits row p ↔ Matches bits row (take (len - 1) p)
    shorter_matches row same = (
      λ m.
          let b = begins_length p (bits row.network) m.0 in
          let has = (length_tells bits len row).1 (omega (arith, b, is), omega (arith, m.1, is), omega (arith, m.2, is)) in
          let k = (length_tells bits (len - 1) row).0 (sym same ∙ has) in
          ((begins_short bits p (bits row.network) (len - 1) k.0).1 m.0, omega (arith, k.1, shorter_length), omega (arith, k.2, shorter_length)),
      λ m.
          let b = begins_length (take (len - 1) p) (bits row.network) m.0 in
          let has = (length_tells bits (len - 1) row).1 (omega (arith, b, shorter_length), omega (arith, m.1, shorter_length), omega (arith, m.2, shorter_length)) in
          let k = (length_tells bits len row).0 (same ∙ has) in
          let short : length (bits row.network) ≤ len - 1 = omega (arith, b, shorter_length) in
          ((begins_short bits p (bits row.network) (len - 1) short).0 m.0, omega (arith, k.1, is), omega (arith, k.2, is)),
    )

  pub none_of_unchanged : (len : ℕ) → 0 < len → (rows : List (Row C)) (i : ℕ)
      → ((row : Row C) → Contains rows row → has_length bits len row ≡ has_length bits (len - 1) row)
      → DecidesNoneBelow bits len rows i → DecidesNoneOf bits len rows i
  none_of_unchanged len pos rows i each none p is d =
      let at : Contains rows d.0.0 = contains_at rows i d.0.0 d.0.1 in
      let short : length (take (len - 1) p) < len = omega (arith, shorter_length len pos p is, pos) in
      none (take (len - 1) p) short (
        (d.0.0, d.0.1, (shorter_matches len pos p is d.0.0 (each d.0.0 at)).0 d.0.2),
        λ r k m. d.1 r k ((shorter_matches len pos p is r (each r (contains_taken rows i r k))).1 m),
      )

  pub none_below_more : (len : ℕ) (rows : List (Row C)) (i : ℕ) → (DecidesNoneBelow bits len rows i × DecidesNoneOf bits len rows i) ↔ DecidesNoneBelow bits (len + 1) rows i
  none_below_more len rows i = (
    λ h p lt. elim (cases_lt (length p) len) [
      | inl below ↦ h.0 p below
      | inr le ↦ h.1 p (omega (arith, lt, le))
    ],
    λ h. (λ p lt. h p (omega (arith, lt)), λ p e. h p (omega (arith, e))),
  )

  -- ---- marks of rows that decide
  -- a row has no mark exactly where it has had none, and of those so far decides nothing of this length
  abbrev pub AreMarkedUpto : ℕ → List (Row C) → List Bool → List Bool → ℕ → Type 0
  AreMarkedUpto len rows old new i = (k : ℕ) → (slice_get new k ≡ Some false) ↔ ((slice_get old k ≡ Some false) × (k < i → DecidesNoneOf bits len rows k))

  module _ (len : ℕ) (rows : List (Row C)) (old new : List Bool) (i : ℕ) (h : AreMarkedUpto len rows old new i) where
    pub mark_set : (mark b : Bool) → slice_get new i ≡ Some mark → (b ≡ false) ↔ ((mark ≡ false) × DecidesNoneOf bits len rows i)
        → AreMarkedUpto len rows old (set new i b) (i + 1)
    mark_set mark b at tells k =
        let within = slice_get_within new i mark at in
        let here : slice_get (set new i b) i ≡ Some b = set_there new i b within in
        elim (cases_eq k i) [
          | inl e ↦ (
            λ s.
                let both = tells.0 (same_Some b false (sym here ∙ (ap (slice_get (set new i b)) (sym e) ∙ s))) in
                let o = (h k).0 (ap (slice_get new) e ∙ (at ∙ ap Some both.0)) in
                (o.0, λ lt. subst (DecidesNoneOf bits len rows) (sym e) both.1),
            λ o.
                let was = (h k).1 (o.0, λ lt. o.1 (omega (arith, lt))) in
                let unmarked : mark ≡ false = same_Some mark false (sym at ∙ (ap (slice_get new) (sym e) ∙ was)) in
                let none : DecidesNoneOf bits len rows i = subst (DecidesNoneOf bits len rows) e (o.1 (omega (arith, e))) in
                ap (slice_get (set new i b)) e ∙ (here ∙ ap Some (tells.1 (unmarked, none))),
          )
          | inr n ↦
              let same = set_elsewhere new i k b n in (
                λ s. let o = (h k).0 (sym same ∙ s) in (o.0, λ lt. o.1 (below_other i k n lt)),
                λ o. same ∙ (h k).1 (o.0, λ lt. o.1 (omega (arith, lt))),
              )
        ]

  pub mark_start : (len : ℕ) (rows : List (Row C)) (old : List Bool) → AreMarkedUpto len rows old old 0
  mark_start len rows old k = (λ e. (e, λ lt. absurd (omega (arith, lt))), λ o. o.0)

  pub mark_end : (len : ℕ) (rows : List (Row C)) (old new : List Bool) (i : ℕ) → length new ≤ i → AreMarkedUpto len rows old new i
      → length new ≡ length old → (k : ℕ) → (slice_get new k ≡ Some false) ↔ ((slice_get old k ≡ Some false) × DecidesNoneOf bits len rows k)
  mark_end len rows old new i le h size k = (
    λ e. let o = (h k).0 e in let w = slice_get_within new k false e in (o.0, o.1 (omega (arith, w, le))),
    λ o. (h k).1 (o.0, λ lt. o.1),
  )

  pub below_start : (rows : List (Row C)) → AreMarkedBelow bits 0 rows (replicate (length rows) false)
  below_start rows i = (
    λ e.
        let w = slice_get_within (replicate (length rows) false) i false e in
        (omega (arith, w, length-replicate (length rows) false), λ p lt. absurd (omega (arith, lt))),
    λ o. slice_replicated (length rows) false i o.0,
  )

  pub below_changed : (len : ℕ) (rows : List (Row C)) (old new : List Bool)
      → ((i : ℕ) → (slice_get new i ≡ Some false) ↔ ((slice_get old i ≡ Some false) × DecidesNoneOf bits len rows i))
      → AreMarkedBelow bits len rows old → AreMarkedBelow bits (len + 1) rows new
  below_changed len rows old new step h i = (
    λ e. let s = (step i).0 e in let o = (h i).0 s.0 in (o.0, (none_below_more len rows i).0 (o.1, s.1)),
    λ o. let both = (none_below_more len rows i).1 o.1 in (step i).1 ((h i).1 (o.0, both.0), both.1),
  )

  pub below_unchanged : (len : ℕ) (rows : List (Row C)) (marks : List Bool) → 0 < len
      → ((row : Row C) → Contains rows row → has_length bits len row ≡ has_length bits (len - 1) row)
      → AreMarkedBelow bits len rows marks → AreMarkedBelow bits (len + 1) rows marks
  below_unchanged len rows marks pos each h i = (
    λ e. let o = (h i).0 e in (o.0, (none_below_more len rows i).0 (o.1, none_of_unchanged len pos rows i each o.1)),
    λ o. (h i).1 (o.0, ((none_below_more len rows i).1 o.1).0),
  )

  pub below_end : (w len : ℕ) → w < len → len ≤ w + 1 → (rows : List (Row C)) (marks : List Bool) → AreMarkedBelow bits len rows marks
      → (i : ℕ) → (slice_get marks i ≡ Some false) ↔ IsShadowed bits w rows i
  below_end w len over under rows marks h i = (
    λ e. let o = (h i).0 e in (o.0, λ p le. o.1 p (omega (arith, le, over))),
    λ s. (h i).1 (s.0, λ p lt. s.1 p (omega (arith, lt, under))),
  )

-- ---- what a binary search found
pub found : (xs : List ℕ) (x : ℕ) (r : Result ℕ ℕ) → IsBinarySearchResult (λ y. nat_cmp y x) xs r → IsStrictlyIncreasing xs → Decides (is_ok r) (Contains xs x)
found xs x (Ok i) pos up = let h = searched xs x (Ok i) pos (rising xs up) in (λ t. (i, h.0, get_or_default xs i x 0 h.0 ∙ h.1), λ c. refl)
found xs x (Err i) pos up = let h = searched xs x (Err i) pos (rising xs up) in (
  λ t. absurd (false≢true t),
  λ c.
      let at : get_or xs c.0 0 ≡ x = get_or_default xs c.0 0 x c.1 ∙ c.2 in
      elim (cases_lt c.0 i) [
        | inl lt ↦ let less = h.1 c.0 lt in absurd (omega (arith, less, at))
        | inr le ↦ let more = h.2 c.0 le c.1 in absurd (omega (arith, more, at))
      ],
)
