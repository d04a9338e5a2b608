use Rattle.std.proofs.Common.{refl, length}
use Rattle.cidr_table.proofs.Insides.{lower_bound_at}
use Rattle.cidr_rows.proofs.search.lower_bound.Goals as goal

pub returns-in-Ok-clause-index : goal.returns-in-Ok-clause-index
returns-in-Ok-clause-index g c = λ s.
    let keys = g.K.Keys.keys c.args.rows.now in
    lower_bound_at g.C.Ord.cmp g.met.C.Ord.total keys c.args.key.now (length keys) c.in-Ok.index refl s (rw c.len.ensures at (c.in-Ok.ensures.index s))
