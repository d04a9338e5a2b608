use Rattle.cidr_table.proofs.RowPlaces.{sorted_none}
use Rattle.cidr_table.proofs.table.LpmTable.new.Goals as goal

pub invariant_of-result : goal.invariant_of-result
invariant_of-result g c = rw c.new.ensures.items (sorted_none g.C.Ord.cmp)
