use Rattle.cidr_c.specs.Nested.{AreOuters}
use Rattle.cidr_c.proofs.nested.outers_of.Given as goal

abbrev pub invariant-loop-inner : goal.invariant-loop-inner
invariant-loop-inner g l = AreOuters g.C.BitString.bits l.rows l.outers.items l.inner
