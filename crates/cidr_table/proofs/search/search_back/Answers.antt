use Rattle.std.proofs.Common.{sym, ◌∙◌, arith}
use Rattle.cidr_table.proofs.Halving.{lesser_upto, greater_from, is_Less, is_Greater}
use Rattle.cidr_table.proofs.search.search_back.Goals as goal

pub search_between-requires-clause-lesser : goal.search_between-requires-clause-lesser
search_between-requires-clause-lesser g c =
    let h = c.loop-high.invariant in
    let near = c.saturating_sub-near.result in
    rw (c.compare-order.ensures.keys, h.same) (lesser_upto g.C.Ord.cmp g.met.C.Ord.total (g.P.Probe.keys c.args.rows.now)
    c.requires.sorted c.args.key.now near (omega (arith, h.within, c.requires.end, h.goes, c.saturating_sub-near.ensures))
    (sym (rw h.same at c.compare-order.ensures.answer) ∙ is_Less c.compare-order.result c.if-is_lt.ensures))

pub loop-high-preserved : goal.loop-high-preserved
loop-high-preserved g c =
    let h = c.loop-high.invariant in
    let near = c.saturating_sub-near.result in
    let greater = greater_from g.C.Ord.cmp g.met.C.Ord.total (g.P.Probe.keys c.args.rows.now) c.requires.sorted
    c.args.key.now near (omega (arith, h.within, c.requires.end, h.goes, c.saturating_sub-near.ensures))
    (sym (rw h.same at c.compare-order.ensures.answer) ∙ is_Greater c.compare-order.result c.if-is_lt.ensures c.if-is_eq.ensures) in
    record {
      same = c.compare-order.ensures.keys ∙ h.same;
      within = omega (arith, h.within, c.saturating_sub-near.ensures);
      goes = omega (arith, h.goes, c.saturating_mul-far.ensures);
      greater = λ j f l. greater j f (omega (arith, c.requires.end));
      cost = omega (arith, h.cost, c.compare-order.ensures.count);
    }
