use Rattle.std.proofs.Common.{◌≡◌, arith, sym, ◌∙◌, get_or}
use Rattle.std.specs.declared.cmp.Ordering.TheVariants.{Greater}
use Rattle.cidr_table.proofs.Halving.{is_Greater, greater_from}
use Rattle.cidr_rows.proofs.search.seek.Goals as goal

pub returns-else-is_eq-clause-index : goal.returns-else-is_eq-clause-index
returns-else-is_eq-clause-index g c = λ s.
    let keys = g.K.Keys.keys c.args.rows.now in
    let key = c.args.key.now in
    let greater : g.C.Ord.cmp (get_or keys 0 key) key ≡ Greater =
    rw (c.key.ensures key) (sym c.cmp-order.ensures ∙ is_Greater c.cmp-order.result c.if-is_lt.ensures c.if-is_eq.ensures) in
    record {
      within = omega arith;
      before = λ j l. absurd (omega (arith, l));
      behind = λ j a l. greater_from g.C.Ord.cmp g.met.C.Ord.total keys s key 0 (omega (arith, c.requires)) greater j a (omega (arith, c.requires));
    }
