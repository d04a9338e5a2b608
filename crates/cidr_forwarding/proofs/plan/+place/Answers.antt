use Rattle.std.proofs.Common.{◌≡◌, ◌∙◌, ◌++◌, ◌∷◌, [], false, true, List, Bool, length, refl, sym, ap, subst, arith, append-nil, length-append}
use Rattle.std.specs.Option.{option_eq}
use Rattle.cidr_forwarding.specs.Choices.{noted, counted}
use Rattle.cidr_forwarding.specs.Plans.{measured, planned, choices, AreOf}
use Rattle.cidr_forwarding.proofs.Stretches.{ends_in_three, room, last_one, last_is, lower_ends, upper_ends, all_before}
use Rattle.cidr_forwarding.proofs.Smallest.{decides_option}
use Rattle.cidr_forwarding.proofs.Placing.{only_chosen, begun, ended_even, ended_chain, ended_halves, counts_left, values_left}
use Rattle.cidr_forwarding.proofs.plan.+place.Goals as goal

pub open-requires-clause-of : goal.open-requires-clause-of
open-requires-clause-of g t c = (g.C.BitString.bits c.args.network, c.requires.depth, c.requires.of)

pub overflow_sub-values : goal.overflow_sub-values
overflow_sub-values g t c =
    let p = c.in-Ended.ensures c.args.holes in
    omega (arith, room (ends_in_three {whole = c.args.values.now} [] [] (c.in-Ended.field-0 ∷ []) (ap noted p.left) c.requires.values))

pub overflow_sub-values-in-Narrowed : goal.overflow_sub-values-in-Narrowed
overflow_sub-values-in-Narrowed g t c =
    let p = c.in-Narrowed.ensures c.args.holes in
    let inside = noted (measured g.C.BitString.bits g.V.PartialEq.eq c.args.holes c.in-Narrowed.inside c.in-Narrowed.own c.in-Narrowed.rest.now) in
    omega (arith, room (ends_in_three {whole = c.args.values.now} [] inside (c.in-Narrowed.own ∷ []) (ap noted p.left) c.requires.values))

pub place-requires : goal.place-requires
place-requires g t c κs within =
    let f = g.C.BitString.bits in
    let p = c.in-Narrowed.ensures c.args.holes in
    let q : List Bool = f c.args.network in
    let inside = measured f g.V.PartialEq.eq c.args.holes c.in-Narrowed.inside c.in-Narrowed.own c.in-Narrowed.rest.now in
    let v = ends_in_three {whole = c.args.values.now} [] (noted inside) (c.in-Narrowed.own ∷ []) (ap noted p.left) c.requires.values in
    let s = c.split_at-in-Narrowed.ensures in
    let here : f c.first_bits-narrow.result ≡ q ++ p.more = c.first_bits-narrow.ensures ∙ p.key_of q c.requires.depth c.requires.of in (
      omega (arith, c.decreases, p.long, p.two, p.within),
      (
        within.0,
        (
          within.1,
          (
            c.requires.tells,
            (
              p.node,
              (
                subst (λ k. AreOf f k c.in-Narrowed.rest.now) (sym here) (p.of q c.requires.depth c.requires.of),
                (
                  omega (arith, ap length here, length-append q p.more, c.requires.depth, p.long),
                  (
                    (c.requires.counts.0, c.requires.counts.1 ∙ ap (λ n. c.requires.counts.0 ++ counted n) p.left),
                    lower_ends v _ _ s.by_index.0 (omega (arith, s.back_len, room v)),
                  ),
                ),
              ),
            ),
          ),
        ),
      ),
    )

pub overflow_sub-end : goal.overflow_sub-end
overflow_sub-end g t c =
    let p = c.in-Parted.ensures c.args.holes in
    omega (arith, room (counts_left p c.requires.counts))

pub bounds-counts-end : goal.bounds-counts-end
bounds-counts-end g t c =
    let p = c.in-Parted.ensures c.args.holes in
    omega (arith, room (counts_left p c.requires.counts))

pub overflow_sub-values-in-Parted : goal.overflow_sub-values-in-Parted
overflow_sub-values-in-Parted g t c =
    let f = g.C.BitString.bits in
    let eq = g.V.PartialEq.eq in
    let p = c.in-Parted.ensures c.args.holes in
    let k = counts_left p c.requires.counts in
    let v = values_left p c.requires.values in
    omega (arith, last_one k _ refl 0, room v)

pub half-low-requires : goal.half-low-requires
half-low-requires g t c = let p = c.in-Parted.ensures c.args.holes in p.long

pub half-high-requires : goal.half-high-requires
half-high-requires g t c = let p = c.in-Parted.ensures c.args.holes in p.long

pub overflow_add-depth : goal.overflow_add-depth
overflow_add-depth g t c = let p = c.in-Parted.ensures c.args.holes in omega (arith, p.small)

pub place-requires-in-Parted : goal.place-requires-in-Parted
place-requires-in-Parted g t c κs within =
    let f = g.C.BitString.bits in
    let eq = g.V.PartialEq.eq in
    let p = c.in-Parted.ensures c.args.holes in
    let q : List Bool = f c.args.network in
    let k = counts_left p c.requires.counts in
    let v = values_left p c.requires.values in
    let s = c.split_at-in-Parted.ensures in
    let e = c.split_at-in-Parted-2.ensures in
    let here : f c.half-low.result ≡ q ++ false ∷ [] = c.half-low.ensures ∙ ap (λ l. l ++ false ∷ []) (p.key_of q c.requires.depth c.requires.of) in (
      omega (arith, c.decreases, p.small),
      (
        within.0,
        (
          within.1,
          (
            c.requires.tells,
            (
              p.low_node,
              (
                subst (λ l. AreOf f l c.in-Parted.lower.now) (sym here) (p.low_of q c.requires.depth c.requires.of),
                (
                  omega (arith, ap length here, length-append q (false ∷ []), c.requires.depth),
                  (
                    lower_ends k _ _ e.by_index.0 (omega (arith, e.back_len, room k)),
                    lower_ends v _ _ s.by_index.0 (omega (arith, s.back_len, last_one k _ refl 0, room v)),
                  ),
                ),
              ),
            ),
          ),
        ),
      ),
    )

pub overflow_add-depth-in-Parted : goal.overflow_add-depth-in-Parted
overflow_add-depth-in-Parted g t c = let p = c.in-Parted.ensures c.args.holes in omega (arith, p.small)

pub place-requires-in-Parted-2 : goal.place-requires-in-Parted-2
place-requires-in-Parted-2 g t c κs within =
    let f = g.C.BitString.bits in
    let eq = g.V.PartialEq.eq in
    let p = c.in-Parted.ensures c.args.holes in
    let q : List Bool = f c.args.network in
    let k = counts_left p c.requires.counts in
    let v = values_left p c.requires.values in
    let s = c.split_at-in-Parted.ensures in
    let e = c.split_at-in-Parted-2.ensures in
    let low = c.in_ok-upper_counts-in-Parted.ensures in
    let here : f c.half-high.result ≡ q ++ true ∷ [] = c.half-high.ensures ∙ ap (λ l. l ++ true ∷ []) (p.key_of q c.requires.depth c.requires.of) in (
      omega (arith, c.decreases, p.small),
      (
        within.0,
        (
          within.1,
          (
            c.requires.tells,
            (
              p.high_node,
              (
                subst (λ l. AreOf f l c.in-Parted.upper.now) (sym here) (p.high_of q c.requires.depth c.requires.of),
                (
                  omega (arith, ap length here, length-append q (true ∷ []), c.requires.depth),
                  (
                    upper_ends k _ _ e.by_index.0 (omega (arith, e.back_len, room k)) _ low.counts,
                    upper_ends v _ _ s.by_index.0 (omega (arith, s.back_len, last_one k _ refl 0, room v)) _ low.values,
                  ),
                ),
              ),
            ),
          ),
        ),
      ),
    )

pub returns-in_ok-begin-in-Ended : goal.returns-in_ok-begin-in-Ended
returns-in_ok-begin-in-Ended g t c =
    let f = g.C.BitString.bits in
    let eq = g.V.PartialEq.eq in
    let p = c.in-Ended.ensures c.args.holes in
    let tree = planned f c.args.depth c.args.inherited c.args.rows.now in
    let v = ends_in_three {whole = c.args.values.now} [] [] (c.in-Ended.field-0 ∷ []) (ap noted p.left) c.requires.values in
    let s = c.split_at.ensures in
    let only = last_is v c.split_at.result.0.now c.split_at.result.1.now s.by_index.0 (omega (arith, s.back_len, room v)) in
    record {
      rows = ended_even (begun f eq c.args.holes tree c.args.network c.args.wanted c.args.out.now.items (only ∙ sym p.only) c.in_ok-begin-in-Ended.ensures.value c.in_ok-begin-in-Ended.ensures.rows) p.plan;
      counts = sym (ap (λ n. c.args.counts.now ++ counted n) p.left ∙ append-nil c.args.counts.now);
      values = s.by_index.0 ∙ ap (λ l. c.split_at.result.0.now ++ l) (only ∙ sym (ap noted p.left));
    }

pub returns-in_ok-left-in-Narrowed : goal.returns-in_ok-left-in-Narrowed
returns-in_ok-left-in-Narrowed g t c =
    let f = g.C.BitString.bits in
    let eq = g.V.PartialEq.eq in
    let own = c.in-Narrowed.own in
    let p = c.in-Narrowed.ensures c.args.holes in
    let tree = planned f c.args.depth c.args.inherited c.args.rows.now in
    let inside = measured f eq c.args.holes c.in-Narrowed.inside own c.in-Narrowed.rest.now in
    let v = ends_in_three {whole = c.args.values.now} [] (noted inside) (own ∷ []) (ap noted p.left) c.requires.values in
    let s = c.split_at-in-Narrowed.ensures in
    let one : length c.split_at-in-Narrowed.result.1.now ≡ 1 = omega (arith, s.back_len, room v) in
    let only = last_is v c.split_at-in-Narrowed.result.0.now c.split_at-in-Narrowed.result.1.now s.by_index.0 one in
    let start = begun f eq c.args.holes tree c.args.network c.args.wanted c.args.out.now.items (only ∙ sym p.only)
    (only_chosen (option_eq eq) (decides_option eq c.requires.tells) c.split_at-in-Narrowed.result.1.now own c.args.wanted only) c.in_ok-begin-in-Narrowed.ensures.rows in
    let left = c.in_ok-left-in-Narrowed in
    record {
      rows = ended_chain start _ p.more _ (c.first_bits-narrow.ensures ∙ p.key_of (f c.args.network) c.requires.depth c.requires.of) p.filled left.ensures.rows;
      counts = left.ensures.counts ∙ ap (λ n. left.left.0.now ++ counted n) (sym p.left);
      values = all_before v _ _ s.by_index.0 one left.left.1.now left.ensures.values left.left.1.now (sym (append-nil left.left.1.now));
    }

pub returns-in_ok-left-in-Parted : goal.returns-in_ok-left-in-Parted
returns-in_ok-left-in-Parted g t c =
    let f = g.C.BitString.bits in
    let eq = g.V.PartialEq.eq in
    let p = c.in-Parted.ensures c.args.holes in
    let q : List Bool = f c.args.network in
    let tree = planned f c.args.depth c.args.inherited c.args.rows.now in
    let k = counts_left p c.requires.counts in
    let v = values_left p c.requires.values in
    let s = c.split_at-in-Parted.ensures in
    let e = c.split_at-in-Parted-2.ensures in
    let long : length c.split_at-in-Parted.result.1.now ≡ length (choices eq c.args.holes tree) = omega (arith, s.back_len, last_one k _ refl 0, room v) in
    let one : length c.split_at-in-Parted-2.result.1.now ≡ 1 = omega (arith, e.back_len, room k) in
    let start = begun f eq c.args.holes tree c.args.network c.args.wanted c.args.out.now.items (last_is v c.split_at-in-Parted.result.0.now c.split_at-in-Parted.result.1.now s.by_index.0 long)
    c.in_ok-value-in-Parted.ensures.value c.in_ok-value-in-Parted.ensures.rows in
    let here = p.key_of q c.requires.depth c.requires.of in
    let low = c.in_ok-upper_counts-in-Parted in
    let left = c.in_ok-left-in-Parted in
    record {
      rows = ended_halves start _ _ p.plan (c.half-low.ensures ∙ ap (λ l. l ++ false ∷ []) here) (c.half-high.ensures ∙ ap (λ l. l ++ true ∷ []) here) low.ensures.rows left.ensures.rows;
      counts = all_before k _ _ e.by_index.0 one low.upper_counts.now low.ensures.counts left.left.0.now left.ensures.counts;
      values = all_before v _ _ s.by_index.0 long low.upper_values.now low.ensures.values left.left.1.now left.ensures.values;
    }
