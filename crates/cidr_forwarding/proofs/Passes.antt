-- What the two passes over the rows have at a network, from what they have at its halves.
use Rattle.std.proofs.Common.{◌≡◌, ℕ, zero, suc, ◌+◌, ◌-◌, ◌<◌, ◌≤◌, Bool, true, false, List, [], ◌∷◌, ◌++◌, length, drop, Option, refl, sym, ap, ap₂, ◌∙◌, subst, arith, inl, inr, append_assoc, length-append}
use Rattle.std.proofs.lemmas.Bool.{cases_lt}
use Rattle.std.specs.List.{All, AllByRecursion}
use Rattle.std.specs.List.Sorted.{IsStrictlySortedBy}
use Rattle.std.specs.Map.{keys_of}
use Rattle.std.specs.Option.{option_eq}
use Rattle.std.specs.declared.cmp.Ordering.{Ordering}
use Rattle.std.specs.declared.cmp.Ordering.TheVariants.{Less}
use Rattle.std.proofs.lemmas.List.Elements.{recursion_from_All}
use Rattle.cidr.specs.model.Bits.{bit_cmp}
use Rattle.cidr_forwarding.specs.Trees.{own, below, under, AllFitWidth, Region, Even, Halves, deeper, region, IsOfHalves, OfHalves, OfEven}
use Rattle.cidr_forwarding.specs.Choices.{joined_candidates, EndsIn, is_free, Measured, Fork, noted}
use Rattle.cidr_forwarding.specs.Plans.{tails, planned, IsNode, AreDeep, IsRest, AreHalves, choices}
use Rattle.cidr_forwarding.proofs.RowParts.{below_halves_false, below_halves_true}
use Rattle.cidr_forwarding.proofs.Stretches.{empty_from, part, part_kept, part_end, ends_more}
use Rattle.cidr_forwarding.proofs.Splits.{parts_under}
use Rattle.cidr_forwarding.proofs.Order.{Ascend}

-- ---- trees
module _ {X : Type 0} where
  pub even_region : (w : ℕ) (c : X) (rows : List (List Bool × X)) → below false rows ≡ [] → below true rows ≡ [] → region w c rows ≡ Even (own c rows)
  even_region zero c rows e f = refl
  even_region (suc w) c rows e f =
      ap₂ (λ lows highs. deeper lows highs (own c rows) (region w (own c rows) (below false rows)) (region w (own c rows) (below true rows))) e f

  deeper_some : (lows highs : List (List Bool × X)) (o : X) (l r : Region X) → 0 < length lows + length highs → deeper lows highs o l r ≡ Halves l r
  deeper_some [] [] o l r h = absurd (omega arith)
  deeper_some [] (x ∷ highs) o l r h = refl
  deeper_some (x ∷ lows) highs o l r h = refl

  pub halves_region : (w : ℕ) (c o : X) (rows lows highs : List (List Bool × X)) → o ≡ own c rows → below false rows ≡ lows → below true rows ≡ highs
      → 0 < length lows + length highs → region (suc w) c rows ≡ Halves (region w o lows) (region w o highs)
  halves_region w c o rows lows highs s e f h =
      ap₂ (λ x y. deeper x y (own c rows) (region w (own c rows) x) (region w (own c rows) y)) e f
      ∙ deeper_some lows highs (own c rows) (region w (own c rows) lows) (region w (own c rows) highs) h
      ∙ ap (λ x. Halves (region w x lows) (region w x highs)) (sym s)

  -- ---- rows of two halves
  within_high : (w : ℕ) (rows : List (List Bool × X)) → AllFitWidth (suc w) (under true rows) → AllFitWidth w rows
  within_high w [] h = tt
  within_high w (r ∷ rows) h = (omega (arith, h.0), within_high w rows h.1)

  within_low : (w : ℕ) (lows highs : List (List Bool × X)) → AllFitWidth (suc w) (under false lows ++ under true highs) → AllFitWidth w lows × AllFitWidth w highs
  within_low w [] highs h = (tt, within_high w highs h)
  within_low w (r ∷ lows) highs h = let k = within_low w lows highs h.1 in ((omega (arith, h.0), k.0), k.1)

  abbrev Above : List Bool → List (List Bool × X) → Type 0
  Above p rows = AllByRecursion (λ q. bit_cmp p q ≡ Less) (keys_of rows)

  above_low : (p : List Bool) (lows highs : List (List Bool × X)) → Above (false ∷ p) (under false lows ++ under true highs) → Above p lows
  above_low p [] highs h = tt
  above_low p (r ∷ lows) highs h = (h.0, above_low p lows highs h.1)

  above_high : (p : List Bool) (highs : List (List Bool × X)) → Above (true ∷ p) (under true highs) → Above p highs
  above_high p [] h = tt
  above_high p (r ∷ highs) h = (h.0, above_high p highs h.1)

  pub ascend_high : (highs : List (List Bool × X)) → Ascend (under true highs) → Ascend highs
  unfolding IsStrictlySortedBy
  ascend_high [] h = tt
  ascend_high (r ∷ highs) h = (above_high r.0 highs h.0, ascend_high highs h.1)

  pub ascend_parts : (lows highs : List (List Bool × X)) → Ascend (under false lows ++ under true highs) → Ascend lows × Ascend highs
  unfolding IsStrictlySortedBy
  ascend_parts [] highs h = (tt, ascend_high highs h)
  ascend_parts (r ∷ lows) highs h = let k = ascend_parts lows highs h.1 in ((above_low r.0 lows highs h.0, k.0), k.1)

  length_parts : (lows highs : List (List Bool × X)) → length (under false lows ++ under true highs) ≡ length lows + length highs
  length_parts [] [] = refl
  length_parts [] (r ∷ highs) = let e = length_parts [] highs in omega (arith, e)
  length_parts (r ∷ lows) highs = let e = length_parts lows highs in omega (arith, e)

some_left : (d : ℕ) (p : List Bool) → (p ≡ [] → ⊥) → length p ≤ 129 - d → d < 129
some_left d [] n k = absurd (n refl)
some_left d (b ∷ p) n k = omega arith

-- ---- rows of a type of networks
module _ {C V : Type 0} (bits : C → List Bool) where
  pub length_tails : (d : ℕ) (rows : List (C × V)) → length (tails bits d rows) ≡ length rows
  length_tails d [] = refl
  length_tails d (r ∷ rows) = ap suc (length_tails d rows)

  pub node_from : (cmp : C → C → Ordering) → ((a b : C) → cmp a b ≡ bit_cmp (bits a) (bits b)) → (rows : List (C × V))
      → IsStrictlySortedBy cmp (keys_of rows) → All (λ r. length (bits r.0) ≤ 129) rows → IsNode bits 0 rows
  unfolding IsStrictlySortedBy
  node_from cmp ordered rows s short = record { ascending = ascends rows s; within = fits rows (recursion_from_All (λ (r : C × V). length (bits r.0) ≤ 129) rows short) }
    where
      above : (key : C) (rows : List (C × V)) → AllByRecursion (λ q. cmp key q ≡ Less) (keys_of rows)
          → AllByRecursion (λ q. bit_cmp (bits key) q ≡ Less) (keys_of (tails bits 0 rows))
      above key [] h = tt
      above key (r ∷ rows) h = (sym (ordered key r.0) ∙ h.0, above key rows h.1)

      ascends : (rows : List (C × V)) → IsStrictlySortedBy cmp (keys_of rows) → IsStrictlySortedBy bit_cmp (keys_of (tails bits 0 rows))
      ascends [] h = tt
      ascends (r ∷ rows) h = (above r.0 rows h.0, ascends rows h.1)

      fits : (rows : List (C × V)) → AllByRecursion (λ (r : C × V). length (bits r.0) ≤ 129) rows → AllFitWidth 129 (tails bits 0 rows)
      fits [] h = tt
      fits (r ∷ rows) h = (h.0, fits rows h.1)

  -- ---- a network with longer rows
  pub depth_small : (d : ℕ) (rest : List (C × V)) → IsNode bits d rest → AreDeep bits d rest → 0 < length rest → d < 129
  depth_small d [] node deep l = absurd (omega arith)
  depth_small d (r ∷ rest) node deep l = some_left d (drop d (bits r.0)) deep.0 node.within.0

  pub none_left : (d : ℕ) (rest : List (C × V)) → IsNode bits d rest → AreDeep bits d rest → 129 ≤ d → length rest ≤ 0
  none_left d [] node deep h = omega arith
  none_left d (r ∷ rest) node deep h = absurd (omega (arith, h, depth_small d (r ∷ rest) node deep (omega arith)))

  planned_none : (d : ℕ) (o : Option V) → planned bits d o [] ≡ Even o
  unfolding planned
  planned_none d o = even_region (129 - d) o [] refl refl

  node_none : (d : ℕ) → IsNode {V = V} bits d []
  unfolding IsStrictlySortedBy
  node_none d = record { ascending = tt; within = tt }

  -- ---- by the longer rows
  module _ {d : ℕ} {c o : Option V} {rows rest : List (C × V)} (r : IsRest bits d c rows o rest) where
    pub planned_even : length rest ≤ 0 → planned bits d c rows ≡ Even o
    unfolding planned
    planned_even l =
        let none : (b : Bool) → below b (tails bits d rows) ≡ [] = λ b. r.halves b ∙ ap (λ k. below b (tails bits d k)) (empty_from rest l) in
        even_region (129 - d) c (tails bits d rows) (none false) (none true) ∙ ap Even (sym r.value_is)

    module _ {lower upper : List (C × V)} (h : AreHalves bits d rest lower upper) where
      parts : tails bits d rest ≡ under false (tails bits (d + 1) lower) ++ under true (tails bits (d + 1) upper)
      parts = ap (tails bits d) h.whole ∙ parts_under bits d lower upper h.low h.high

      pub lows_are : below false (tails bits d rows) ≡ tails bits (d + 1) lower
      lows_are = r.halves false ∙ ap (below false) parts ∙ below_halves_false (tails bits (d + 1) lower) (tails bits (d + 1) upper)

      pub highs_are : below true (tails bits d rows) ≡ tails bits (d + 1) upper
      highs_are = r.halves true ∙ ap (below true) parts ∙ below_halves_true (tails bits (d + 1) lower) (tails bits (d + 1) upper)

      module _ (some : 0 < length rest) where
        small : d < 129
        small = depth_small d rest r.node r.deep some

        left : suc (129 - (d + 1)) ≡ 129 - d
        left = omega (arith, small)

        pub planned_halves : planned bits d c rows ≡ Halves (planned bits (d + 1) o lower) (planned bits (d + 1) o upper)
        unfolding planned
        planned_halves =
            ap (λ w. region w c (tails bits d rows)) (sym left)
            ∙ halves_region (129 - (d + 1)) c o (tails bits d rows) (tails bits (d + 1) lower) (tails bits (d + 1) upper) r.value_is lows_are highs_are
            (omega (arith, ap length parts, length_parts (tails bits (d + 1) lower) (tails bits (d + 1) upper), length_tails d rest, some))

        both_within : AllFitWidth (129 - (d + 1)) (tails bits (d + 1) lower) × AllFitWidth (129 - (d + 1)) (tails bits (d + 1) upper)
        both_within =
            within_low (129 - (d + 1)) (tails bits (d + 1) lower) (tails bits (d + 1) upper)
            (subst (λ w. AllFitWidth w (under false (tails bits (d + 1) lower) ++ under true (tails bits (d + 1) upper))) (sym left)
            (subst (AllFitWidth (129 - d)) parts r.node.within))

        both_ascend : Ascend (tails bits (d + 1) lower) × Ascend (tails bits (d + 1) upper)
        both_ascend = ascend_parts (tails bits (d + 1) lower) (tails bits (d + 1) upper) (subst Ascend parts r.node.ascending)

        both_nodes : IsNode bits (d + 1) lower × IsNode bits (d + 1) upper
        both_nodes = (record { ascending = both_ascend.0; within = both_within.0 }, record { ascending = both_ascend.1; within = both_within.1 })

      -- ---- also where none is longer
      none_of : length rest ≤ 0 → (lower ≡ []) × (upper ≡ [])
      none_of n =
          let e : length rest ≡ length lower + length upper = ap length h.whole ∙ length-append lower upper in
          (empty_from lower (omega arith), empty_from upper (omega arith))

      pub planned_of_halves : IsOfHalves (planned bits d c rows) (planned bits (d + 1) o lower) (planned bits (d + 1) o upper)
      planned_of_halves = elim (cases_lt 0 (length rest)) [
        | inl some ↦ OfHalves (planned_halves some)
        | inr none ↦
            let e = none_of none in
            OfEven o (planned_even none) (ap (planned bits (d + 1) o) e.0 ∙ planned_none (d + 1) o) (ap (planned bits (d + 1) o) e.1 ∙ planned_none (d + 1) o)
      ]

      pub half_nodes : IsNode bits (d + 1) lower × IsNode bits (d + 1) upper
      half_nodes = elim (cases_lt 0 (length rest)) [
        | inl some ↦ both_nodes some
        | inr none ↦
            let e = none_of none in
            (subst (IsNode bits (d + 1)) (sym e.0) (node_none (d + 1)), subst (IsNode bits (d + 1)) (sym e.1) (node_none (d + 1)))
      ]

-- ---- lists of candidates
module _ {V : Type 0} (eq : V → V → Bool) (holes : Bool) where
  pub choices_even : (x : Option V) → choices eq holes (Even x) ≡ x ∷ []
  unfolding choices
  choices_even x = refl

  pub choices_halves : (l r : Region (Option V)) → choices eq holes (Halves l r) ≡ joined_candidates (option_eq eq) (is_free holes) (choices eq holes l) (choices eq holes r)
  unfolding choices
  choices_halves l r = refl

-- ---- what the first pass appends
pub fork_ends : {X : Type 0} {n_t n_l n_r : Measured X} {s : List X} → n_t ≡ Fork s n_l n_r → EndsIn (noted n_t) s
fork_ends {n_l = n_l} {n_r = n_r} {s = s} e = (noted n_r ++ noted n_l, ap noted e ∙ sym (append_assoc (noted n_r) (noted n_l) s))

-- with the one candidate last
pub one_last : {X : Type 0} {s l : List X} {o : X} (front : List X) → s ≡ o ∷ [] → l ≡ front ++ o ∷ [] → (1 ≡ length s) × EndsIn l s
one_last front c e = (sym (ap length c), (front, e ∙ ap (λ k. front ++ k) (sym c)))

module _ {V : Type 0} (eq : V → V → Bool) (holes : Bool) where
  -- the candidates of both halves, as they are read
  pub parts_joined : {t l r : Region (Option V)} (n_l n_r : Measured (Option V)) → t ≡ Halves l r → (v0 v1 d e : List (Option V)) {low high : ℕ}
      → (low ≡ length (choices eq holes l)) × EndsIn (noted n_l) (choices eq holes l) → (high ≡ length (choices eq holes r)) × EndsIn (noted n_r) (choices eq holes r)
      → v1 ≡ v0 ++ noted n_r → d ≡ v1 ++ noted n_l → e ≡ v1 ++ noted n_l → {start middle : ℕ} → start ≡ length d - low → middle ≡ length v1
      → joined_candidates (option_eq eq) (is_free holes) (part d start (length d)) (part e (middle - high) middle) ≡ choices eq holes t
  parts_joined {t = t} {l = l} {r = r} n_l n_r is v0 v1 d e {low = low} {high = high} low_is high_is first second again {start = start} {middle = middle} s m =
      let lower : part d start (length d) ≡ choices eq holes l =
      ap (λ k. part d k (length d)) s
      ∙ part_end d (choices eq holes l) low (length d) (subst (λ v. EndsIn v (choices eq holes l)) (sym second) (ends_more v1 low_is.1)) low_is.0 refl in
      let upper : part e (middle - high) middle ≡ choices eq holes r =
      ap (λ v. part v (middle - high) middle) again ∙ part_kept v1 (noted n_l) (middle - high) middle (omega arith) (omega (arith, m))
      ∙ part_end v1 (choices eq holes r) high middle (subst (λ v. EndsIn v (choices eq holes r)) (sym first) (ends_more v0 high_is.1)) high_is.0 m in
      ap₂ (joined_candidates (option_eq eq) (is_free holes)) lower upper ∙ sym (choices_halves eq holes l r) ∙ ap (choices eq holes) (sym is)
