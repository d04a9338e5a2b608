use Rattle.cidr_c.proofs.Outers.{IsFoundUpto}
use Rattle.cidr_c.proofs.nested.rows_upto.Given as goal

abbrev pub invariant-loop-left : goal.invariant-loop-left
invariant-loop-left g l = IsFoundUpto g.C.BitString.bits l.rows (g.C.BitString.bits l.asked) l.found l.left

abbrev pub decreases-loop-left : goal.decreases-loop-left
decreases-loop-left g l = l.left
