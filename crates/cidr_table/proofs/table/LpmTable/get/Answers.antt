use Rattle.std.proofs.Common.{sym, ◌∙◌, ap, Some}
use Rattle.cidr_table.proofs.RowPlaces.{lookup_at}
use Rattle.cidr_table.proofs.MapLaws.{looked_up}
use Rattle.cidr_table.proofs.Beginnings.{cmp_exact}
use Rattle.cidr_table.proofs.table.LpmTable.get.Goals as goal

pub returns-in-Ok-clause-value : goal.returns-in-Ok-clause-value
returns-in-Ok-clause-value g c =
    let b = rw (ap (λ t. t.rows) c.self.view_is) at c.index-row.ensures in
    let found = lookup_at g.C.Ord.cmp g.met.C.Ord.total c.args.key.now c.args.self.now.rows c.in-Ok.index c.index-row.result.now c.in-Ok.ensures.sorted c.in-Ok.ensures.index in
    let exact = cmp_exact g.C.Ord.cmp g.C.BitString.bits g.met.C.NetworkBits.ordered g.met.C.NetworkBits.determined in
    rw (found ∙ ap (λ p. Some p.1) (sym b)) at (looked_up g.C.Ord.cmp g.met.C.Ord.total exact c.args.key.now c.args.self.now.rows)
