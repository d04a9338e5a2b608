use Rattle.std.proofs.Common.{sym, ◌∙◌, arith, ◌+◌, ◌-◌, ◌/◌, take}
use Rattle.std.specs.declared.cmp.Ordering.TheVariants.{Less, Equal}
use Rattle.cidr_table.proofs.Beginnings.{bits_exact}
use Rattle.cidr_table.proofs.Halving.{not_Greater, is_Equal}
use Rattle.cidr_table.proofs.SharedLengths.{fewer, more, compared}
use Rattle.cidr_table.proofs.search.shared_len.Goals as goal

pub loop-left-preserved-then-is_gt : goal.loop-left-preserved-then-is_gt
loop-left-preserved-then-is_gt g c =
    let h = c.loop-left.invariant in
    let left = c.loop-left.left in
    rw (c.compare-order.ensures.keys, h.same, c.compare-order.ensures.count) (more (g.P.Probe.keys c.args.rows.now) _ _
    c.args.most _ (g.P.Probe.count c.loop-left.rows) c.loop-left.low left (left / 2) (rw h.same at h) (omega arith) (omega arith) (omega arith))

pub returns-then-is_eq-clause-shared : goal.returns-then-is_eq-clause-shared
returns-then-is_eq-clause-shared g c =
    let h = c.loop-left.invariant in
    let left = c.loop-left.left in
    let mid = c.loop-left.low + (left - left / 2) in
    let answer = compared g.C.Ord.cmp g.C.BitString.bits g.met.C.NetworkBits.ordered (g.P.Probe.keys c.args.rows.now)
    c.args.asked.now c.clipped.result c.args.index mid Equal c.requires.index c.clipped.ensures
    (sym (is_Equal c.compare-order.result c.if-is_eq.ensures) ∙ rw h.same at c.compare-order.ensures.answer) in
    (omega (arith, h.within), bits_exact _ (take mid (g.C.BitString.bits c.args.asked.now)) answer)

pub loop-left-preserved : goal.loop-left-preserved
loop-left-preserved g c =
    let h = c.loop-left.invariant in
    let left = c.loop-left.left in
    let mid = c.loop-left.low + (left - left / 2) in
    let answer = compared g.C.Ord.cmp g.C.BitString.bits g.met.C.NetworkBits.ordered (g.P.Probe.keys c.args.rows.now)
    c.args.asked.now c.clipped.result c.args.index mid Less c.requires.index c.clipped.ensures
    (sym (not_Greater c.compare-order.result c.if-is_gt.ensures c.if-is_eq.ensures) ∙ rw h.same at c.compare-order.ensures.answer) in
    rw (c.compare-order.ensures.keys, h.same, c.compare-order.ensures.count) (fewer (g.P.Probe.keys c.args.rows.now) _ _
    c.args.most _ (g.P.Probe.count c.loop-left.rows) c.loop-left.low left (left / 2) (rw h.same at h) (omega arith) (omega arith) (omega arith) answer)
