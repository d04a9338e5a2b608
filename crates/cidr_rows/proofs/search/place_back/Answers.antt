use Rattle.std.proofs.Common.{arith, sym, ◌∙◌, get_or}
use Rattle.std.specs.declared.cmp.Ordering.TheVariants.{Less, Greater}
use Rattle.std.proofs.Common.{◌≡◌, ◌-◌}
use Rattle.cidr_table.proofs.Halving.{is_Less, is_Greater, lesser_upto, greater_from}
use Rattle.cidr_rows.proofs.search.place_back.Goals as goal

pub loop-step-preserved : goal.loop-step-preserved
loop-step-preserved g c =
    let h = c.loop-step.invariant in
    let keys = g.K.Keys.keys c.args.rows.now in
    let key = c.args.key.now in
    let mid = c.loop-step.upto - c.loop-step.step in
    let greater : g.C.Ord.cmp (get_or keys mid key) key ≡ Greater =
    rw (c.key.ensures key) (sym c.cmp-order.ensures ∙ is_Greater c.cmp-order.result c.if-is_lt.ensures c.if-is_eq.ensures) in
    record {
      within = omega (arith, h.within);
      goes = omega (arith, h.goes);
      behind = λ s j a l. greater_from g.C.Ord.cmp g.met.C.Ord.total keys s key mid (omega (arith, h.within, h.goes, c.requires)) greater j a (omega (arith, c.requires));
    }

pub returns-then-is_lt-clause-index : goal.returns-then-is_lt-clause-index
returns-then-is_lt-clause-index g c = λ s.
    let h = c.loop-step.invariant in
    let keys = g.K.Keys.keys c.args.rows.now in
    let key = c.args.key.now in
    let mid = c.loop-step.upto - c.loop-step.step in
    let less : g.C.Ord.cmp (get_or keys mid key) key ≡ Less =
    rw (c.key.ensures key) (sym c.cmp-order.ensures ∙ is_Less c.cmp-order.result c.if-is_lt.ensures) in
    c.place_between.ensures.index s (record {
      before = λ j l. lesser_upto g.C.Ord.cmp g.met.C.Ord.total keys s key mid (omega (arith, h.within, h.goes, c.requires)) less j (omega arith);
      behind = λ j a l. h.behind s j (omega (arith, h.goes)) l;
    })
