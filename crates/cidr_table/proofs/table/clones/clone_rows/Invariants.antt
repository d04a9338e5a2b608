-- the rows so far are cloned
use Rattle.std.proofs.Common.{take}
use Rattle.cidr_table.specs.model.FiniteMap.{AreCloned}
use Rattle.cidr_table.proofs.table.clones.clone_rows.Given as goal

abbrev pub invariant-loop-row : goal.invariant-loop-row
invariant-loop-row g l = AreCloned g.V.Clone.is_clone (take l.row-index l.rows) l.copy.items
