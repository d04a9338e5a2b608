use Rattle.std.proofs.Common.{map, take}
use Rattle.cidr.specs.model.Network.{width_of}
use Rattle.cidr_routes.specs.Lengths.{AreContinued}
use Rattle.cidr_routes.proofs.joined.continued_rows.Given as goal

-- the rows so far
abbrev pub invariant-loop-row : goal.invariant-loop-row
invariant-loop-row g l = AreContinued g.C.BitString.bits (width_of g.C.FamilyCidr.FAMILY) (map g.C.BitString.bits l.set) l.len (take l.row-index l.before) l.out.items
