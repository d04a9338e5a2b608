use Rattle.std.proofs.Common.{◌↔◌, take}
use Rattle.std.specs.List.{Contains}
use Rattle.cidr.specs.model.Network.{width_of}
use Rattle.cidr_routes.proofs.PermitRows.{IsOpen}
use Rattle.cidr_routes.proofs.joined.open_networks.Given as goal

-- the networks of the rows so far that have not ended
abbrev pub invariant-loop-row : goal.invariant-loop-row
invariant-loop-row g l = (n : _) → Contains l.networks.items n ↔ IsOpen g.C.BitString.bits (width_of g.C.FamilyCidr.FAMILY) (take l.row-index l.rows) n
