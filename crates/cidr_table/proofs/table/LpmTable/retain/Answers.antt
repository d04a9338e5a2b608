use Rattle.cidr_table.proofs.Matching.{sorted_kept}
use Rattle.cidr_table.proofs.table.LpmTable.retain.Goals as goal

pub invariant_of-self : goal.invariant_of-self
invariant_of-self g c = sorted_kept g.C.Ord.cmp _ _ c.self.inside.rows.items c.retain.new.self.items c.retain.ensures.filtered c.self.invariant

pub returns-clause-sorted : goal.returns-clause-sorted
returns-clause-sorted g c = invariant_of-self g c
