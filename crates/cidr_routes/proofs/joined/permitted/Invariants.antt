use Rattle.cidr.specs.model.Network.{width_of}
use Rattle.cidr_routes.specs.Lengths.{AreSoFar}
use Rattle.cidr_routes.proofs.joined.permitted.Given as goal

-- the rows of the lengths so far
abbrev pub invariant-loop-len : goal.invariant-loop-len
invariant-loop-len g l = AreSoFar g.C.BitString.bits (width_of g.C.FamilyCidr.FAMILY) l.rows l.len l.out.items
