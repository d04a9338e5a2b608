use denote.Param.Always.{always_mut}
use Rattle.cidr_table.specs.model.Writing.{CallLeaves}
use Rattle.cidr_table.proofs.InTurn.{IsAt}
use Rattle.cidr_table.proofs.table.lends.write_each.Given as goal

abbrev pub invariant-loop-index : goal.invariant-loop-index
invariant-loop-index g l = always_mut g.F.FnMut l.write × IsAt (CallLeaves g.F.FnMut.steps) l.fn.write l.fn.rows l.write l.rows l.index
