use Rattle.std.proofs.Common.{map}
use Rattle.cidr.specs.model.Network.{width_of}
use Rattle.cidr_sets.proofs.AddressIndexes.{IsPassedBy}
use Rattle.cidr_sets.proofs.set.NetworkSet.position.Given as goal

-- the networks so far have as many addresses, of which the one is none
abbrev pub invariant-loop-network : goal.invariant-loop-network
invariant-loop-network g l =
    IsPassedBy (width_of g.C.FamilyCidr.FAMILY) (map g.C.BitString.bits l.network-items) l.network-index l.before (g.C.Address.PrivUnspecAddress.bits l.fn.address)
