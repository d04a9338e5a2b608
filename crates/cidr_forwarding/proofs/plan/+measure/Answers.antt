use Rattle.std.proofs.Common.{rules, ◌≡◌, ◌∙◌, ◌+◌, ◌++◌, ◌∷◌, [], false, true, length, sym, ap, arith, append_assoc, append-nil, length-append}
use Rattle.cidr_forwarding.specs.Choices.{noted, counted}
use Rattle.cidr_forwarding.specs.Plans.{measured, choices, planned}
use Rattle.cidr_forwarding.proofs.Stretches.{appended}
use Rattle.cidr_forwarding.proofs.Passes.{fork_ends, one_last, parts_joined}
use Rattle.cidr_forwarding.proofs.plan.+measure.Goals as goal

pub measure-requires : goal.measure-requires
measure-requires g t c κs within =
    let p = c.in-Narrowed.ensures c.args.holes in
    let one = c.requires.of in
    (omega (arith, c.decreases, p.long, p.two, p.within), (within.0, (within.1, (c.requires.tells, (p.node, (one.0 ++ p.more, omega (arith, length-append one.0 p.more, one.1, p.long), p.of one.0 one.1 one.2))))))

pub overflow_add-depth : goal.overflow_add-depth
overflow_add-depth g t c = let p = c.in-Parted.ensures c.args.holes in omega (arith, p.small)

pub measure-requires-in-Parted : goal.measure-requires-in-Parted
measure-requires-in-Parted g t c κs within =
    let p = c.in-Parted.ensures c.args.holes in
    let one = c.requires.of in
    let q = one.0 ++ true ∷ [] in
    (omega (arith, c.decreases, p.small), (within.0, (within.1, (c.requires.tells, (p.high_node, (q, omega (arith, length-append one.0 (true ∷ []), one.1), p.high_of one.0 one.1 one.2))))))

pub overflow_add-depth-in-Parted : goal.overflow_add-depth-in-Parted
overflow_add-depth-in-Parted g t c = let p = c.in-Parted.ensures c.args.holes in omega (arith, p.small)

pub measure-requires-in-Parted-2 : goal.measure-requires-in-Parted-2
measure-requires-in-Parted-2 g t c κs within =
    let p = c.in-Parted.ensures c.args.holes in
    let one = c.requires.of in
    let q = one.0 ++ false ∷ [] in
    (omega (arith, c.decreases, p.small), (within.0, (within.1, (c.requires.tells, (p.low_node, (q, omega (arith, length-append one.0 (false ∷ []), one.1), p.low_of one.0 one.1 one.2))))))

pub returns-in_ok-push-in-Ended-clause-counts : goal.returns-in_ok-push-in-Ended-clause-counts
returns-in_ok-push-in-Ended-clause-counts g t c =
    let p = c.in-Ended.ensures c.args.holes in
    sym (ap (λ n. c.args.counts.now.items ++ counted n) p.left ∙ append-nil c.args.counts.now.items)

pub returns-in_ok-push-in-Ended-clause-values : goal.returns-in_ok-push-in-Ended-clause-values
returns-in_ok-push-in-Ended-clause-values g t c =
    let p = c.in-Ended.ensures c.args.holes in
    c.in_ok-push-in-Ended.ensures.items ∙ ap (λ n. c.args.values.now.items ++ noted n) (sym p.left)

pub returns-in_ok-push-in-Ended-clause-last : goal.returns-in_ok-push-in-Ended-clause-last
returns-in_ok-push-in-Ended-clause-last g t c = let p = c.in-Ended.ensures c.args.holes in one_last [] p.only (ap noted p.left)

pub returns-in_ok-push-in-Narrowed-clause-counts : goal.returns-in_ok-push-in-Narrowed-clause-counts
returns-in_ok-push-in-Narrowed-clause-counts g t c =
    let p = c.in-Narrowed.ensures c.args.holes in
    c.in_ok-measure-in-Narrowed.ensures.counts ∙ ap (λ n. c.args.counts.now.items ++ counted n) (sym p.left)

pub returns-in_ok-push-in-Narrowed-clause-values : goal.returns-in_ok-push-in-Narrowed-clause-values
returns-in_ok-push-in-Narrowed-clause-values g t c =
    let p = c.in-Narrowed.ensures c.args.holes in
    let old = c.args.values.now.items in
    let own = c.in-Narrowed.own ∷ [] in
    let inside = noted (measured g.C.BitString.bits g.V.PartialEq.eq c.args.holes c.in-Narrowed.inside c.in-Narrowed.own c.in-Narrowed.rest.now) in
    c.in_ok-push-in-Narrowed.ensures.items ∙ ap (λ l. l ++ own) c.in_ok-measure-in-Narrowed.ensures.values
    ∙ append_assoc old inside own ∙ ap (λ n. old ++ noted n) (sym p.left)

pub returns-in_ok-push-in-Narrowed-clause-last : goal.returns-in_ok-push-in-Narrowed-clause-last
returns-in_ok-push-in-Narrowed-clause-last g t c = let p = c.in-Narrowed.ensures c.args.holes in one_last _ p.only (ap noted p.left)

pub returns-in_ok-push-in-Parted : goal.returns-in_ok-push-in-Parted
returns-in_ok-push-in-Parted g t c =
    let f = g.C.BitString.bits in
    let eq = g.V.PartialEq.eq in
    let p = c.in-Parted.ensures c.args.holes in
    let lower = measured f eq c.args.holes (c.args.depth + 1) c.in-Parted.own c.in-Parted.lower.now in
    let upper = measured f eq c.args.holes (c.args.depth + 1) c.in-Parted.own c.in-Parted.upper.now in
    let set = choices eq c.args.holes (planned f c.args.depth c.args.inherited c.args.rows.now) in
    let old = c.args.values.now.items in
    let before = c.args.counts.now.items in
    let now = c.join.new.joined.items in
    let high = c.in_ok-high-in-Parted.ensures in
    let low = c.in_ok-low-in-Parted.ensures in
    let joined : now ≡ set =
    c.in_ok-join-in-Parted.ensures
    ∙ parts_joined eq c.args.holes lower upper p.plan old c.measure-in-Parted.new.values.items c.deref.result.now c.deref-in-Parted.result.now low.last high.last high.values
    (c.deref.ensures.value ∙ low.values) (c.deref-in-Parted.ensures.value ∙ low.values) (search rules) (search rules) in
    let length_is : c.len-in-Parted.result ≡ length now = search rules in
    let result_is : c.len-in-Parted-2.result ≡ length now = search rules in
    let count : c.len-in-Parted.result ≡ length set = length_is ∙ ap length joined in
    record {
      counts = appended before _ _ _ (counted upper) (counted lower) (length set ∷ []) _ high.counts low.counts
          (c.in_ok-push-in-Parted.ensures.items ∙ ap (λ n. c.measure-in-Parted-2.new.counts.items ++ n ∷ []) count) (ap counted p.left);
      values = appended old _ _ _ (noted upper) (noted lower) set _ high.values low.values
          (c.in_ok-extend_from_slice-in-Parted.ensures.items ∙ ap (λ l. c.measure-in-Parted-2.new.values.items ++ l) (c.deref-in-Parted-2.ensures.value ∙ joined)) (ap noted p.left);
      last = (result_is ∙ ap length joined, fork_ends p.left);
    }
