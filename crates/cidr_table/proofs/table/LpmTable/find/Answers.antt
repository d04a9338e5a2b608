use Rattle.std.proofs.Common.{ap, arith, length}
use Rattle.std.proofs.lemmas.List.{length-map}
use Rattle.cidr_table.proofs.table.LpmTable.find.Goals as goal

pub search-requires-clause-sorted : goal.search-requires-clause-sorted
search-requires-clause-sorted g c = rw c.probe.ensures.rows c.probe.ensures.sorted

pub search-requires-clause-end : goal.search-requires-clause-end
search-requires-clause-end g c = rw (c.probe.ensures.rows, c.len.ensures) (omega (arith, length-map c.args.self.now.rows (λ (x : g.row.C.Denot × g.row.V.Denot). x.0), ap (λ t. length t.rows) c.self.view_is))

pub returns-clause-sorted : goal.returns-clause-sorted
returns-clause-sorted g c = c.probe.ensures.sorted
