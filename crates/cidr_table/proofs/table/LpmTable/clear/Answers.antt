use Rattle.cidr_table.proofs.RowPlaces.{sorted_none}
use Rattle.cidr_table.proofs.table.LpmTable.clear.Goals as goal

pub invariant_of-self : goal.invariant_of-self
invariant_of-self g c = rw c.clear.ensures.items (sorted_none g.C.Ord.cmp)
