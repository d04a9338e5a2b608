use Rattle.cidr_table.proofs.Matching.{cloned_keys}
use Rattle.cidr_table.proofs.table.clones.LpmTableClone.clone.Goals as goal

pub invariant_of-result : goal.invariant_of-result
invariant_of-result g c = rw (cloned_keys g.V.Clone.is_clone c.ascending.result.now c.in_ok-rows.rows.items c.in_ok-rows.ensures) c.ascending.ensures.sorted
