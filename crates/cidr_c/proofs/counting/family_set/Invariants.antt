use Rattle.std.proofs.Common.{map, take}
use Rattle.cidr_c.specs.calls.Batches.{AreNetworkValues, bits_in}
use Rattle.cidr_c.proofs.Counted.{IsTaken}
use Rattle.cidr_c.proofs.counting.family_set.Given as goal

-- the values so far are networks, and those of the family have their addresses
abbrev pub invariant-loop-value : goal.invariant-loop-value
invariant-loop-value g l =
    AreNetworkValues (take l.value-index l.values)
    × IsTaken g.C.FamilyCidr.FAMILY (bits_in (take l.value-index l.values)) (map g.C.BitString.bits l.networks.items)
