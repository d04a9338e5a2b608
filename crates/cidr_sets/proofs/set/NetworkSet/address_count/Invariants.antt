use Rattle.std.proofs.Common.{map}
use Rattle.cidr.specs.model.Network.{width_of}
use Rattle.cidr_sets.proofs.AddressIndexes.{IsPassed}
use Rattle.cidr_sets.proofs.set.NetworkSet.address_count.Given as goal

-- the networks so far have as many addresses
abbrev pub invariant-loop-network : goal.invariant-loop-network
invariant-loop-network g l = IsPassed (width_of g.C.FamilyCidr.FAMILY) (map g.C.BitString.bits l.network-items) l.network-index l.count
