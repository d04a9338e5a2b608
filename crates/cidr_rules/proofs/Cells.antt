-- Into how many cells the ends of holes cut a box: a hole leaves fewer cells.
use Rattle.std.proofs.Common.{◌≡◌, ℕ, zero, suc, ◌+◌, ◌-◌, ◌*◌, ◌<◌, ◌≤◌, Bool, true, false, ◌&&◌, cond, nat_le, nat_lt, nat_eq, min, max, Option, Some, None, if◌then◌else◌, List, [], ◌∷◌, length, set, refl, sym, ◌∙◌, ap, inl, inr, arith, slice_index_or, ◌⊎◌}
use Rattle.std.specs.List.{Contains, count_by}
use Rattle.std.proofs.Math.Nat.{add-mul, mul-add}
use Rattle.std.proofs.lemmas.Bool.{false≢true, lt-ltb, le-ltb, le-leb, lt-leb, eq-eqb, ne_eqb, and_from, and_left, and_right, cases_lt, cases_order}
use Rattle.std.proofs.lemmas.Nat.{mul-le}
use Rattle.std.proofs.lemmas.List.Elements.{Contains-append_right}
use Rattle.std.proofs.lemmas.List.Sums.{get_or-le-sum_by, sum_by-cons}
use Rattle.cidr_rules.specs.declared.fields.Range.{Range}
use Rattle.cidr_rules.specs.Regions.{common_of, below_of, above_of, range_at}
use Rattle.cidr_rules.specs.Parts.{edges, ranges_between, cells, all_cells, piece}

-- ---- edges in a range
is_edge : ℕ → ℕ → ℕ → Bool
is_edge f l p = nat_lt f p && nat_le p l

-- how many points cut the range from f to l
abbrev pub cuts : List ℕ → ℕ → ℕ → ℕ
cuts points f l = count_by (λ p. nat_lt f p && nat_le p l) points

abbrev pub equal_to : List ℕ → ℕ → ℕ
equal_to points t = count_by (λ p. nat_eq p t) points

tests : (u v e w : Bool) → cond {A = ℕ} u 1 0 + cond {A = ℕ} v 1 0 + cond {A = ℕ} e 1 0 ≤ cond {A = ℕ} w 1 0
    → (U V E W : Bool) → U ≡ u → V ≡ v → E ≡ e → W ≡ w
    → cond {A = ℕ} U 1 0 + cond {A = ℕ} V 1 0 + cond {A = ℕ} E 1 0 ≤ cond {A = ℕ} W 1 0
tests u v e w h U V E W eU eV eE eW = rw (eU, eV, eE, eW) h

-- a point of the range from f to l is in one of its parts, or the first of the second
one_point : (f u t l p : ℕ) → f < t → t ≤ l → u + 1 ≡ t
    → cond {A = ℕ} (nat_lt f p && nat_le p u) 1 0 + cond {A = ℕ} (nat_lt t p && nat_le p l) 1 0 + cond {A = ℕ} (nat_eq p t) 1 0
    ≤ cond {A = ℕ} (nat_lt f p && nat_le p l) 1 0
one_point f u t l p lf lt next = elim (cases_lt f p) [
  | inr low ↦ tests false false false false (omega arith) _ _ _ _
      (and_left _ _ (le-ltb f p low)) (and_left _ _ (le-ltb t p (omega arith))) (ne_eqb p t (λ e. omega (arith, e, low, lf))) (and_left _ _ (le-ltb f p low))
  | inl more ↦ elim (cases_lt l p) [
    | inl high ↦ tests false false false false (omega arith) _ _ _ _
        (and_right _ _ (lt-leb p u (omega arith))) (and_right _ _ (lt-leb p l high)) (ne_eqb p t (λ e. omega (arith, e, high, lt))) (and_right _ _ (lt-leb p l high))
    | inr upto ↦ elim (cases_order p t) [
      | inl same ↦ tests false false true true (omega arith) _ _ _ _
          (and_right _ _ (lt-leb p u (omega arith))) (and_left _ _ (le-ltb t p (omega arith))) (eq-eqb p t same)
          (and_from _ _ (lt-ltb f p more) (le-leb p l upto))
      | inr (inl below) ↦ tests true false false true (omega arith) _ _ _ _
          (and_from _ _ (lt-ltb f p more) (le-leb p u (omega arith))) (and_left _ _ (le-ltb t p (omega arith))) (ne_eqb p t (λ e. omega (arith, e, below)))
          (and_from _ _ (lt-ltb f p more) (le-leb p l upto))
      | inr (inr above) ↦ tests false true false true (omega arith) _ _ _ _
          (and_right _ _ (lt-leb p u (omega arith))) (and_from _ _ (lt-ltb t p above) (le-leb p l upto)) (ne_eqb p t (λ e. omega (arith, e, above)))
          (and_from _ _ (lt-ltb f p more) (le-leb p l upto))
    ]
  ]
]

cuts_all : (points : List ℕ) (f u t l : ℕ) → f < t → t ≤ l → u + 1 ≡ t
    → cuts points f u + cuts points t l + equal_to points t ≤ cuts points f l
cuts_all [] f u t l lf lt next = omega arith
cuts_all (p ∷ points) f u t l lf lt next = omega (
  arith,
  sum_by-cons (λ q. cond {A = ℕ} (nat_lt f q && nat_le q u) 1 0) p points,
  sum_by-cons (λ q. cond {A = ℕ} (nat_lt t q && nat_le q l) 1 0) p points,
  sum_by-cons (λ q. cond {A = ℕ} (nat_eq q t) 1 0) p points,
  sum_by-cons (λ q. cond {A = ℕ} (nat_lt f q && nat_le q l) 1 0) p points,
  one_point f u t l p lf lt next,
  cuts_all points f u t l lf lt next,
)

equal_some : (points : List ℕ) (t : ℕ) → Contains points t → 1 ≤ equal_to points t
equal_some points t (k, lt, is) =
    let here : cond {A = ℕ} (nat_eq (slice_index_or points k t) t) 1 0 ≡ 1 = ap (λ b. cond {A = ℕ} b 1 0) (eq-eqb _ _ is) in
    omega (arith, here, get_or-le-sum_by (λ q. cond {A = ℕ} (nat_eq q t) 1 0) points k t lt)

-- a range that is cut at one of the points
cuts_split : (points : List ℕ) (f u t l : ℕ) → f < t → t ≤ l → u + 1 ≡ t → Contains points t
    → cuts points f u + cuts points t l + 1 ≤ cuts points f l
cuts_split points f u t l lf lt next has = omega (arith, cuts_all points f u t l lf lt next, equal_some points t has)

-- ---- a range beside a hole
abbrev pub part_of : List ℕ → Option (Range ℕ) → ℕ
part_of points None = 0
part_of points (Some q) = ranges_between points q

part_yes : (points : List ℕ) (b : Bool) (q : Range ℕ) → b ≡ true → part_of points (if b then Some q else None) ≡ ranges_between points q
part_yes points true q e = refl
part_yes points false q e = absurd (false≢true e)

part_no : (points : List ℕ) (b : Bool) (q : Range ℕ) → b ≡ false → part_of points (if b then Some q else None) ≡ 0
part_no points true q e = absurd (false≢true (sym e))
part_no points false q e = refl

module _ (points : List ℕ) (r s : Range ℕ) (low : s.first ≤ r.last) (high : r.first ≤ s.last) (full : s.first ≤ s.last)
    (starts : Contains points s.first) (ends : Contains points (s.last + 1)) where
  low_part : Range ℕ
  low_part = record { first = r.first; last = s.first - 1 }

  high_part : Range ℕ
  high_part = record { first = s.last + 1; last = r.last }

  common_cuts : (f l : ℕ) → max r.first s.first ≡ f → min r.last s.last ≡ l → ranges_between points (common_of r s) ≡ 1 + cuts points f l
  common_cuts f l ef el = ap (λ n. 1 + cuts points n (min r.last s.last)) ef ∙ ap (λ n. 1 + cuts points f n) el

  pub beside : part_of points (below_of r s) + part_of points (above_of r s) + ranges_between points (common_of r s) ≤ ranges_between points r
  beside = elim (cases_lt r.first s.first) [
    | inl before ↦ elim (cases_lt s.last r.last) [
      | inl behind ↦ omega (
        arith,
        part_yes points (nat_lt r.first s.first) (record { first = r.first; last = s.first - 1 }) (lt-ltb _ _ before),
        part_yes points (nat_lt s.last r.last) (record { first = s.last + 1; last = r.last }) (lt-ltb _ _ behind),
        common_cuts s.first s.last (omega arith) (omega arith),
        cuts_split points r.first (s.first - 1) s.first r.last before low (omega arith) starts,
        cuts_split points s.first s.last (s.last + 1) r.last (omega arith) (omega arith) refl ends,
      )
      | inr upto ↦ omega (
        arith,
        part_yes points (nat_lt r.first s.first) (record { first = r.first; last = s.first - 1 }) (lt-ltb _ _ before),
        part_no points (nat_lt s.last r.last) (record { first = s.last + 1; last = r.last }) (le-ltb _ _ upto),
        common_cuts s.first r.last (omega arith) (omega arith),
        cuts_split points r.first (s.first - 1) s.first r.last before low (omega arith) starts,
      )
    ]
    | inr none ↦ elim (cases_lt s.last r.last) [
      | inl behind ↦ omega (
        arith,
        part_no points (nat_lt r.first s.first) (record { first = r.first; last = s.first - 1 }) (le-ltb _ _ none),
        part_yes points (nat_lt s.last r.last) (record { first = s.last + 1; last = r.last }) (lt-ltb _ _ behind),
        common_cuts r.first s.last (omega arith) (omega arith),
        cuts_split points r.first s.last (s.last + 1) r.last (omega arith) (omega arith) refl ends,
      )
      | inr upto ↦ omega (
        arith,
        part_no points (nat_lt r.first s.first) (record { first = r.first; last = s.first - 1 }) (le-ltb _ _ none),
        part_no points (nat_lt s.last r.last) (record { first = s.last + 1; last = r.last }) (le-ltb _ _ upto),
        common_cuts r.first r.last (omega arith) (omega arith),
      )
    ]
  ]

-- ---- the edges of a hole
contains_cases : {X : Type 0} (y : X) (ys : List X) (x : X) → Contains (y ∷ ys) x → (y ≡ x) ⊎ Contains ys x
contains_cases y ys x (zero, lt, is) = inl is
contains_cases y ys x (suc k, lt, is) = inr (k, omega (arith, lt), is)

pub edges_start : (holes : List (List (Range ℕ))) (hole : List (Range ℕ)) (d : ℕ) → Contains holes hole → Contains (edges holes d) (range_at hole d).first
edges_start [] hole d (k, lt, is) = absurd (omega (arith, lt))
edges_start (h ∷ holes) hole d has = elim (contains_cases h holes hole has) [
  | inl e ↦ (0, omega arith, ap (λ (g : List (Range ℕ)). (range_at g d).first) e)
  | inr c ↦ Contains-append_right ((range_at h d).first ∷ ((range_at h d).last + 1) ∷ []) (edges holes d) (range_at hole d).first (edges_start holes hole d c)
]

pub edges_end : (holes : List (List (Range ℕ))) (hole : List (Range ℕ)) (d : ℕ) → Contains holes hole → Contains (edges holes d) ((range_at hole d).last + 1)
edges_end [] hole d (k, lt, is) = absurd (omega (arith, lt))
edges_end (h ∷ holes) hole d has = elim (contains_cases h holes hole has) [
  | inl e ↦ (1, omega arith, ap (λ (g : List (Range ℕ)). (range_at g d).last + 1) e)
  | inr c ↦ Contains-append_right ((range_at h d).first ∷ ((range_at h d).last + 1) ∷ []) (edges holes d) ((range_at hole d).last + 1) (edges_end holes hole d c)
]

-- ---- a box that is cut in one field
abbrev pub piece_cells : List (List (Range ℕ)) → ℕ → List (Range ℕ) → ℕ → Option (Range ℕ) → ℕ
piece_cells holes from rs d None = 0
piece_cells holes from rs d (Some q) = cells holes from (set rs d q)

module _ (holes : List (List (Range ℕ))) where
  here : (q : Range ℕ) (rs : List (Range ℕ)) (from : ℕ) (o : Option (Range ℕ))
      → piece_cells holes from (q ∷ rs) 0 o ≡ part_of (edges holes from) o * cells holes (from + 1) rs
  unfolding cells
  here q rs from None = omega arith
  here q rs from (Some p) = refl

  later : (q : Range ℕ) (rs : List (Range ℕ)) (from d : ℕ) (o : Option (Range ℕ))
      → piece_cells holes from (q ∷ rs) (suc d) o ≡ ranges_between (edges holes from) q * piece_cells holes (from + 1) rs d o
  unfolding cells
  later q rs from d None = omega arith
  later q rs from d (Some p) = refl

  spread_right : (a b m r t : ℕ) → a + b + m ≤ r → a * t + b * t + m * t ≤ r * t
  spread_right a b m r t h = omega (arith, mul-le (a + b + m) t r t h (omega arith), add-mul (a + b) m t, add-mul a b t)

  spread_left : (w a b m r : ℕ) → a + b + m ≤ r → w * a + w * b + w * m ≤ w * r
  spread_left w a b m r h = omega (arith, mul-le w (a + b + m) w r (omega arith) h, mul-add w (a + b) m, mul-add w a b)

  pub cut_cells : (rs : List (Range ℕ)) (from d k : ℕ) (b a : Option (Range ℕ)) (m : Range ℕ) → d < length rs → from + d ≡ k
      → part_of (edges holes k) b + part_of (edges holes k) a + ranges_between (edges holes k) m ≤ ranges_between (edges holes k) (range_at rs d)
      → piece_cells holes from rs d b + piece_cells holes from rs d a + cells holes from (set rs d m) ≤ cells holes from rs
  unfolding cells
  cut_cells [] from d k b a m lt e h = absurd (omega (arith, lt))
  cut_cells (q ∷ rs) from zero k b a m lt e h =
      let same : k ≡ from = omega arith in
      let there = rw same at h in
      omega (
        arith,
        here q rs from b,
        here q rs from a,
        spread_right (part_of (edges holes from) b) (part_of (edges holes from) a) (ranges_between (edges holes from) m)
            (ranges_between (edges holes from) q) (cells holes (from + 1) rs) there,
      )
  cut_cells (q ∷ rs) from (suc d) k b a m lt e h =
      let rest = cut_cells rs (from + 1) d k b a m (omega (arith, lt)) (omega (arith, e)) h in
      omega (
        arith,
        later q rs from d b,
        later q rs from d a,
        spread_left (ranges_between (edges holes from) q) (piece_cells holes (from + 1) rs d b) (piece_cells holes (from + 1) rs d a)
            (cells holes (from + 1) (set rs d m)) (cells holes (from + 1) rs) rest,
      )

  pub cells_some : (from : ℕ) (rs : List (Range ℕ)) → 1 ≤ cells holes from rs
  unfolding cells
  cells_some from [] = omega arith
  cells_some from (r ∷ rs) = mul-le 1 1 (ranges_between (edges holes from) r) (cells holes (from + 1) rs) (omega arith) (cells_some (from + 1) rs)

  pub piece_sum : (rs : List (Range ℕ)) (d : ℕ) (o : Option (Range ℕ)) → all_cells holes (piece rs d o) ≡ piece_cells holes 0 rs d o
  piece_sum rs d None = refl
  piece_sum rs d (Some q) = omega arith
