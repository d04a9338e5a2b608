use Rattle.std.proofs.Common.{arith, sym}
use Rattle.std.proofs.lemmas.List.{length-map}
use Rattle.cidr_table.proofs.Insides.{lower_bound_at}
use Rattle.cidr_table.proofs.table.lower_bound.Goals as goal

pub returns-in-Ok : goal.returns-in-Ok
returns-in-Ok g c =
    let size = length-map c.args.rows.now (λ (x : g.row.C.Denot × g.row.V.Denot). x.0) in
    lower_bound_at g.C.Ord.cmp g.met.C.Ord.total _ c.args.key.now _ c.in-Ok.index (sym size) c.requires (rw c.new.ensures.rows at c.in-Ok.ensures.index)

pub search-requires-clause-sorted : goal.search-requires-clause-sorted
search-requires-clause-sorted g c = rw c.new.ensures.rows c.requires

pub search-requires-clause-end : goal.search-requires-clause-end
search-requires-clause-end g c = rw c.new.ensures.rows (omega (arith, length-map c.args.rows.now (λ (x : g.row.C.Denot × g.row.V.Denot). x.0)))
