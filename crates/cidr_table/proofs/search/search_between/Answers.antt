use Rattle.std.proofs.Common.{refl, sym, arith, ◌+◌, ◌-◌, ◌/◌, false}
use Rattle.cidr_table.proofs.Halving.{leaves_right, leaves_left}
use Rattle.cidr_table.proofs.search.search_between.Goals as goal

pub loop-left-preserved-then-is_lt : goal.loop-left-preserved-then-is_lt
loop-left-preserved-then-is_lt g c =
    let h = c.loop-left.invariant in
    let rows = c.args.rows.now in
    let low = c.loop-left.low in
    let left = c.loop-left.left in
    let next = leaves_right g.C.Ord.cmp g.met.C.Ord.total (g.P.Probe.keys rows) c.requires.sorted c.args.key.now
    (low + left / 2) (omega (arith, h.within, c.requires.end))
    c.args.end (c.args.end - c.args.start) (g.P.Probe.count rows) (g.P.Probe.count c.loop-left.rows) low left (left / 2) false
    c.requires.end (rw h.same at h) refl (omega arith) (omega arith) (omega arith)
    c.compare-order.result (sym (rw h.same at c.compare-order.ensures.answer)) c.if-is_lt.ensures in
    rw (c.compare-order.ensures.keys, h.same, c.compare-order.ensures.count) next

pub loop-left-preserved : goal.loop-left-preserved
loop-left-preserved g c =
    let h = c.loop-left.invariant in
    let rows = c.args.rows.now in
    let low = c.loop-left.low in
    let left = c.loop-left.left in
    let next = leaves_left g.C.Ord.cmp g.met.C.Ord.total (g.P.Probe.keys rows) c.requires.sorted c.args.key.now
    (low + left / 2) (omega (arith, h.within, c.requires.end))
    c.args.end (c.args.end - c.args.start) (g.P.Probe.count rows) (g.P.Probe.count c.loop-left.rows) low left (left / 2) false
    c.requires.end (rw h.same at h) refl (omega arith) (omega arith) (omega arith)
    c.compare-order.result (sym (rw h.same at c.compare-order.ensures.answer)) c.if-is_lt.ensures in
    rw (c.compare-order.ensures.keys, h.same, c.compare-order.ensures.count) (rw (sym c.if-is_eq.ensures) at next)
