use Rattle.std.proofs.Common.{◌≡◌, map, take}
use Rattle.cidr_c.specs.calls.Batches.{AreNetworkValues}
use Rattle.cidr_c.specs.model.Values.{network_in}
use Rattle.cidr_c.proofs.batches.networks_of.Given as goal

abbrev pub invariant-loop-value : goal.invariant-loop-value
invariant-loop-value l =
    AreNetworkValues (take l.value-index l.values) × (l.networks.items ≡ map network_in (take l.value-index l.values))
