use Rattle.std.proofs.Common.{map, take}
use Rattle.cidr.specs.model.Network.{width_of}
use Rattle.cidr_routes.specs.Lengths.{AreBegun}
use Rattle.cidr_routes.proofs.joined.begin_rows.Given as goal

-- the rows of the networks so far
abbrev pub invariant-loop-network : goal.invariant-loop-network
invariant-loop-network g l = AreBegun g.C.BitString.bits (width_of g.C.FamilyCidr.FAMILY) l.len (take l.network-index l.networks)
    (map g.C.BitString.bits l.cover) l.initial.out.items l.out.items
