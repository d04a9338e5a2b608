use Rattle.std.proofs.Common.{◌≡◌, drop, length, map, take}
use Rattle.cidr_c.specs.calls.Batches.{AreNetworkValues}
use Rattle.cidr_c.specs.model.Values.{network_in}
use Rattle.cidr_c.proofs.batches.put.Given as goal

abbrev pub invariant-loop-i : goal.invariant-loop-i
invariant-loop-i l = AreNetworkValues (take l.i l.out) × (map network_in (take l.i l.out) ≡ take l.i l.networks)
    × (drop (length l.networks) l.out ≡ drop (length l.networks) l.fn.out)
