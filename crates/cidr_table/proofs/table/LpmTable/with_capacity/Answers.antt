use Rattle.cidr_table.proofs.RowPlaces.{sorted_none}
use Rattle.cidr_table.proofs.table.LpmTable.with_capacity.Goals as goal

pub invariant_of-result : goal.invariant_of-result
invariant_of-result g c = rw c.in_ok-rows.ensures.items (sorted_none g.C.Ord.cmp)
