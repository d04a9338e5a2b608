-- What the rows of a network are, as they are read.
use Rattle.std.proofs.Common.{◌≡◌, ℕ, zero, suc, ◌+◌, ◌-◌, ◌<◌, ◌≤◌, Bool, true, false, List, [], ◌∷◌, ◌++◌, length, get_or, take, Option, Some, None, refl, sym, ap, ap₂, ◌∙◌, subst, arith, length-append}
use Rattle.std.specs.Bool.{Decides}
use Rattle.std.specs.Option.{option_eq}
use Rattle.cidr.specs.model.Network.{HasWidth}
use Rattle.cidr_forwarding.specs.Trees.{own, below, region, longer, dropped, sharing}
use Rattle.cidr_forwarding.specs.Choices.{is_free, candidates, fill, Measured, Sole, Fork, Chain, measured_at, measured_of}
use Rattle.cidr_forwarding.specs.Plans.{tails, planned, IsNode, IsRest, AreHalves, AreOf, behind, choices, measured, put_rows, fill_rows}
use Rattle.cidr_forwarding.specs.Opened.{IsEnded, IsNarrowed, IsParted}
use Rattle.cidr_forwarding.proofs.Stretches.{empty_from}
use Rattle.cidr_forwarding.proofs.RowParts.{AreFree}
use Rattle.cidr_forwarding.proofs.Shapes.{fits_width, at_region}
use Rattle.cidr_forwarding.proofs.Smallest.{decides_option}
use Rattle.cidr_forwarding.proofs.Fewest.{pinned}
use Rattle.cidr_forwarding.proofs.Nodes.{own_none}
use Rattle.cidr_forwarding.proofs.Splits.{longer_than, deep_at}
use Rattle.cidr_forwarding.proofs.Passes.{length_tails, depth_small, planned_even, planned_halves, half_nodes, lows_are, highs_are, choices_even}
use Rattle.cidr_forwarding.proofs.Placing.{behind_nothing, of_parts, of_at, of_half}
use Rattle.cidr_forwarding.proofs.Chains.{walk, Pins, one_candidate, fill_walk, region_behind, region_rest}
use Rattle.cidr_forwarding.proofs.Sharing.{more_bits, length_more, more_tails, more_fits, more_node, more_of}

module _ {X : Type 0} (same : X → X → Bool) (free : X → Bool) where
  sole_of : (w : ℕ) (c : X) (rows : List (List Bool × X)) → longer rows ≡ [] → measured_of same free w 0 c rows ≡ Sole (own c rows)
  sole_of zero c rows e = refl
  sole_of (suc w) c rows e =
      ap (λ l. measured_at l (sharing l) (own c rows) (candidates same free (region (suc w) c rows)) (measured_of same free w (sharing l - 1) (own c rows) (dropped 1 l))
      (measured_of same free w 0 (own c rows) (below false rows)) (measured_of same free w 0 (own c rows) (below true rows))) e

  at_fork : (rows : List (List Bool × X)) (n : ℕ) (o : X) (s : List X) (far l r : Measured X) → 0 < length rows → n ≤ 1 → measured_at rows n o s far l r ≡ Fork s l r
  at_fork [] n o s far l r h k = absurd (omega arith)
  at_fork (x ∷ rows) zero o s far l r h k = refl
  at_fork (x ∷ rows) (suc zero) o s far l r h k = refl
  at_fork (x ∷ rows) (suc (suc n)) o s far l r h k = absurd (omega arith)

  at_chain : (rows : List (List Bool × X)) (n : ℕ) (o : X) (s : List X) (far l r : Measured X) → 0 < length rows → 2 ≤ n → measured_at rows n o s far l r ≡ Chain o far
  at_chain [] n o s far l r h k = absurd (omega arith)
  at_chain (x ∷ rows) zero o s far l r h k = absurd (omega arith)
  at_chain (x ∷ rows) (suc zero) o s far l r h k = absurd (omega arith)
  at_chain (x ∷ rows) (suc (suc n)) o s far l r h k = refl

  fork_of : (w : ℕ) (c o : X) (rows rest lows highs : List (List Bool × X)) → longer rows ≡ rest → 0 < length rest → sharing rest ≤ 1 → o ≡ own c rows
      → below false rows ≡ lows → below true rows ≡ highs
      → measured_of same free (suc w) 0 c rows ≡ Fork (candidates same free (region (suc w) c rows)) (measured_of same free w 0 o lows) (measured_of same free w 0 o highs)
  fork_of w c o rows rest lows highs e some few s f h =
      let set = candidates same free (region (suc w) c rows) in
      ap (λ l. measured_at l (sharing l) (own c rows) set (measured_of same free w (sharing l - 1) (own c rows) (dropped 1 l))
      (measured_of same free w 0 (own c rows) (below false rows)) (measured_of same free w 0 (own c rows) (below true rows))) e
      ∙ at_fork rest (sharing rest) (own c rows) set (measured_of same free w (sharing rest - 1) (own c rows) (dropped 1 rest))
      (measured_of same free w 0 (own c rows) (below false rows)) (measured_of same free w 0 (own c rows) (below true rows)) some few
      ∙ ap (λ x. Fork set (measured_of same free w 0 x (below false rows)) (measured_of same free w 0 x (below true rows))) (sym s)
      ∙ ap₂ (λ x y. Fork set (measured_of same free w 0 o x) (measured_of same free w 0 o y)) f h

  -- ---- rows that share bits
  dropped_behind : (b : Bool) (p : List Bool) (rows : List (List Bool × X)) → dropped 1 (behind (b ∷ p) rows) ≡ behind p rows
  dropped_behind b p [] = refl
  dropped_behind b p (r ∷ rows) = ap (λ l. (p ++ r.0, r.1) ∷ l) (dropped_behind b p rows)

  passed_over : (p : List Bool) (w n : ℕ) (c : X) (rows : List (List Bool × X)) → n ≡ length p + w → measured_of same free n (length p) c (behind p rows) ≡ measured_of same free w 0 c rows
  passed_over [] w n c rows e = let f : n ≡ w = omega (arith, e) in ap₂ (λ k l. measured_of same free k 0 c l) f (behind_nothing rows)
  passed_over (b ∷ p) w n c rows e =
      let v = length p + w in
      let f : n ≡ suc v = omega (arith, e) in
      ap (λ k. measured_of same free k (suc (length p)) c (behind (b ∷ p) rows)) f ∙ ap (measured_of same free v (length p) c) (dropped_behind b p rows)
      ∙ passed_over p w v c rows refl

  chain_of : (p : List Bool) (w n : ℕ) (c o : X) (rows rest inside : List (List Bool × X)) → longer rows ≡ rest → rest ≡ behind p inside → sharing rest ≡ length p → 2 ≤ length p
      → 0 < length rest → o ≡ own c rows → n ≡ length p + w → measured_of same free n 0 c rows ≡ Chain o (measured_of same free w 0 o inside)
  chain_of [] w n c o rows rest inside e is s two some own_is n_is = absurd (omega arith)
  chain_of (b ∷ p) w n c o rows rest inside e is s two some own_is n_is =
      let v = length p + w in
      let f : n ≡ suc v = omega (arith, n_is) in
      let set = candidates same free (region (suc v) c rows) in
      let one_less : sharing rest - 1 ≡ length p = omega (arith, s) in
      ap (λ k. measured_of same free k 0 c rows) f
      ∙ ap (λ l. measured_at l (sharing l) (own c rows) set (measured_of same free v (sharing l - 1) (own c rows) (dropped 1 l))
      (measured_of same free v 0 (own c rows) (below false rows)) (measured_of same free v 0 (own c rows) (below true rows))) e
      ∙ at_chain rest (sharing rest) (own c rows) set (measured_of same free v (sharing rest - 1) (own c rows) (dropped 1 rest))
      (measured_of same free v 0 (own c rows) (below false rows)) (measured_of same free v 0 (own c rows) (below true rows)) some (omega (arith, s, two))
      ∙ ap₂ (λ x k. Chain x (measured_of same free v k x (dropped 1 rest))) (sym own_is) one_less
      ∙ ap (λ l. Chain o (measured_of same free v (length p) o l)) (ap (dropped 1) is ∙ dropped_behind b p inside)
      ∙ ap (Chain o) (passed_over p w v o inside refl)

some_free : {V : Type 0} → (holes : Bool) (v : V) → is_free holes (Some v) ≡ true
some_free true v = refl
some_free false v = refl

tails_free : {C V : Type 0} → (bits : C → List Bool) (holes : Bool) (d : ℕ) (rows : List (C × V)) → AreFree (is_free holes) (tails bits d rows)
tails_free bits holes d [] = tt
tails_free bits holes d (r ∷ rows) = (some_free holes r.1, tails_free bits holes d rows)

-- ---- by halves
module _ {C V : Type 0} {bits : C → List Bool} {d : ℕ} {rest lower upper : List (C × V)} (h : AreHalves bits d rest lower upper) where
  pub lower_of : (q : List Bool) → length q ≡ d → AreOf bits q rest → AreOf bits (q ++ false ∷ []) lower
  lower_of q l k = of_half bits q d false lower l ((of_parts bits q lower upper (subst (AreOf bits q) h.whole k)).0) h.low

  pub upper_of : (q : List Bool) → length q ≡ d → AreOf bits q rest → AreOf bits (q ++ true ∷ []) upper
  upper_of q l k = of_half bits q d true upper l ((of_parts bits q lower upper (subst (AreOf bits q) h.whole k)).1) h.high

-- ---- the rows as they are opened
module _ {C V : Type 0} {bits : C → List Bool} (eq : V → V → Bool) (holes : Bool) {d : ℕ} {c o : Option V} {rows rest : List (C × V)} (r : IsRest bits d c rows o rest) where
  pub ended : length rest ≤ 0 → IsEnded bits eq holes d c rows o
  unfolding measured
  ended l = record {
    plan = planned_even bits r l;
    only = ap (choices eq holes) (planned_even bits r l) ∙ choices_even eq holes o;
    left =
        sole_of (option_eq eq) (is_free holes) (129 - d) c (tails bits d rows) (r.longer_is ∙ ap (tails bits d) (empty_from rest l)) ∙ ap Sole (sym r.value_is);
  }

  module _ (some : 0 < length rest) (of : (q : List Bool) → AreOf bits q rows → AreOf bits q rest) where
    some_tails : 0 < length (tails bits d rest)
    some_tails = omega (arith, some, length_tails bits d rest)

    small : d < 129
    small = depth_small bits d rest r.node r.deep some

    -- the rows of both halves, and a key of them
    module _ {lower upper : List (C × V)} (h : AreHalves bits d rest lower upper) (few : sharing (tails bits d rest) ≤ 1) where
      left_fork : measured bits eq holes d c rows
          ≡ Fork (choices eq holes (planned bits d c rows)) (measured bits eq holes (d + 1) o lower) (measured bits eq holes (d + 1) o upper)
      unfolding measured choices planned
      left_fork =
          let lows = tails bits (d + 1) lower in
          let highs = tails bits (d + 1) upper in
          let w = 129 - (d + 1) in
          let left : suc w ≡ 129 - d = omega (arith, small) in
          subst (λ k. measured_of (option_eq eq) (is_free holes) k 0 c (tails bits d rows)
          ≡ Fork (candidates (option_eq eq) (is_free holes) (region k c (tails bits d rows))) (measured_of (option_eq eq) (is_free holes) w 0 o lows) (measured_of (option_eq eq) (is_free holes) w 0 o highs)) left
          (fork_of (option_eq eq) (is_free holes) w c o (tails bits d rows) (tails bits d rest) lows highs r.longer_is some_tails few r.value_is (lows_are bits r h) (highs_are bits r h))

      pub parted : (first : C × V) → first ≡ get_or rest 0 first → IsParted bits eq holes d c rows o (get_or rest 0 first).0 lower upper
      parted first is =
          let nodes = half_nodes bits r h in
          let of_first : IsParted bits eq holes d c rows o first.0 lower upper = record {
            small = small;
            long = longer_than d (bits first.0) (deep_at bits d rest 0 first r.deep some is);
            key_of = λ q l k. ap (λ n. take n (bits first.0)) (sym l) ∙ of_at bits q rest 0 first some (of q k) is;
            low_node = nodes.0;
            high_node = nodes.1;
            low_of = λ q l k. lower_of h q l (of q k);
            high_of = λ q l k. upper_of h q l (of q k);
            plan = planned_halves bits r h some;
            left = left_fork;
          } in
          subst (λ (x : C × V). IsParted bits eq holes d c rows o x.0 lower upper) is of_first

    -- the rows of a network that is at least two bits longer
    module _ (decides : (x y : V) → Decides (eq x y) (x ≡ y)) (many : 2 ≤ sharing (tails bits d rest)) (n : ℕ) (n_is : n ≡ d + sharing (tails bits d rest)) where
      more : List Bool
      more = more_bits bits d rest r.node

      long : length more ≡ sharing (tails bits d rest)
      unfolding more
      long = length_more bits d rest r.node

      tails_are : tails bits d rest ≡ behind more (tails bits n rest)
      unfolding more
      tails_are = more_tails bits d rest r.node ∙ ap (λ k. behind more (tails bits k rest)) (sym n_is)

      fits : n ≤ 129
      fits = omega (arith, n_is, more_fits bits d rest r.node small)

      space : 129 - d ≡ length more + (129 - n)
      space = omega (arith, small, n_is, long, fits)

      node_inside : IsNode bits n rest
      node_inside = subst (λ k. IsNode bits k rest) (sym n_is) (more_node bits d rest r.node small)

      left_chain : measured bits eq holes d c rows ≡ Chain o (measured bits eq holes n o rest)
      unfolding measured
      left_chain =
          chain_of (option_eq eq) (is_free holes) more (129 - n) (129 - d) c o (tails bits d rows) (tails bits d rest) (tails bits n rest) r.longer_is tails_are
          (sym long) (omega (arith, many, long)) some_tails r.value_is space

      region_is : planned bits d c rows ≡ walk o more (planned bits n o rest)
      unfolding planned
      region_is =
          let v = 129 - (d + 1) in
          let left : 129 - d ≡ suc v = omega (arith, small) in
          ap (λ k. region k c (tails bits d rows)) left
          ∙ region_rest v c o (tails bits d rows) (tails bits d rest) r.value_is (own_none bits d o rest r.deep) r.halves
          ∙ ap (λ l. region (suc v) o l) tails_are
          ∙ region_behind more (129 - n) (suc v) o (tails bits n rest) (sym left ∙ space) (omega (arith, some, length_tails bits n rest))

      pins : Pins (option_eq eq) (decides_option eq decides) (is_free holes) o (candidates (option_eq eq) (is_free holes) (planned bits n o rest))
      unfolding planned
      pins =
          let w = 129 - n in
          let fitted = fits_width w w o (tails bits n rest) (HasWidth w) (omega arith) node_inside.within (λ a e. e) (λ a e. e) in
          pinned (option_eq eq) (is_free holes) (decides_option eq decides) (region w o (tails bits n rest)) (HasWidth w) o (tails bits n rest) fitted (tails_free bits holes n rest)
          (λ a m. sym (at_region w o (tails bits n rest) (HasWidth w) node_inside.within fitted a m))

      one_choice : choices eq holes (planned bits d c rows) ≡ o ∷ []
      unfolding choices
      one_choice =
          ap (candidates (option_eq eq) (is_free holes)) region_is
          ∙ one_candidate (option_eq eq) (decides_option eq decides) (is_free holes) o (planned bits n o rest) pins more (omega (arith, many, long))

      filled : fill_rows eq holes (planned bits d c rows) o ≡ behind more (put_rows eq holes (planned bits n o rest) o)
      unfolding fill_rows put_rows
      filled =
          ap (λ t. fill (option_eq eq) (is_free holes) None t o) region_is
          ∙ fill_walk (option_eq eq) (decides_option eq decides) (is_free holes) o (planned bits n o rest) pins None more (omega (arith, many, long))

      pub narrowed : (first : C × V) → first ≡ get_or rest 0 first → IsNarrowed bits eq holes d c rows o (get_or rest 0 first).0 rest n
      unfolding more
      narrowed first is =
          let inside_of : (q : List Bool) → length q ≡ d → AreOf bits q rows → AreOf bits (q ++ more) rest = λ q l k. more_of bits d rest r.node q l (of q k) in
          let of_first : IsNarrowed bits eq holes d c rows o first.0 rest n = record {
            more = more_bits bits d rest r.node;
            long = n_is ∙ ap (λ k. d + k) (sym long);
            two = omega (arith, many, long);
            within = fits;
            key_of = λ q l k.
                ap (λ i. take i (bits first.0)) (omega (arith, length-append q more, l, n_is, long)) ∙ of_at bits (q ++ more) rest 0 first some (inside_of q l k) is;
            node = node_inside;
            of = inside_of;
            only = one_choice;
            filled = filled;
            left = left_chain;
          } in
          subst (λ (x : C × V). IsNarrowed bits eq holes d c rows o x.0 rest n) is of_first
