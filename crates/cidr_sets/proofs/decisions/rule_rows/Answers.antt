use Rattle.std.proofs.Common.{length, map, arith}
use Rattle.std.proofs.lemmas.List.{length-map}
use Rattle.cidr_sets.proofs.Deciding.{rows_more, rows_moved, rows_none, sorted_from}
use Rattle.cidr_sets.proofs.FirstRules.{network_there}
use Rattle.cidr_sets.proofs.decisions.rule_rows.Goals as goal

pub loop-index-init : goal.loop-index-init
loop-index-init g c =
    let f = g.C.BitString.bits in rw c.in_ok-rows.ensures.items (rows_none f (map (λ r. f r.network) c.args.rules.now))

pub loop-index-preserved : goal.loop-index-preserved
loop-index-preserved g c =
    let f = g.C.BitString.bits in
    let l = c.loop-index in
    let rules = c.args.rules.now in
    let r = c.index-rules-index.result in
    rw c.in_ok-push.ensures.items (rows_more f (map (λ x. f x.network) rules) l.index l.rows.items r.network
    (network_there (λ x. f x.network) rules l.index r c.loop-index-test.true c.index-rules-index.is) l.invariant)

pub returns-clause-ascend : goal.returns-clause-ascend
returns-clause-ascend g c =
    sorted_from g.C.BitString.bits g.C.Ord.cmp g.met.C.NetworkBits.ordered c.sort_unstable.new.self.items c.sort_unstable.ensures.sorted

pub returns-clause-rows : goal.returns-clause-rows
returns-clause-rows g c =
    let f = g.C.BitString.bits in
    let rules = c.args.rules.now in
    let l = c.loop-index in
    rows_moved f (map (λ x. f x.network) rules) l.index (length rules) l.rows.items c.sort_unstable.new.self.items
    (omega (arith, c.loop-index-test.false)) (omega (arith, length-map rules (λ x. f x.network))) c.sort_unstable.ensures.permutation l.invariant
