use Rattle.std.proofs.Common.{◌≡◌, drop, map, take}
use Rattle.cidr_lists.specs.Reading.{listed}
use Rattle.cidr_c.specs.calls.Batches.{AreNetworkValues}
use Rattle.cidr_c.specs.calls.Lists.{of_both}
use Rattle.cidr_c.specs.model.Values.{network_in}
use Rattle.cidr_c.proofs.lists.put_all.Given as goal

abbrev pub invariant-loop-i : goal.invariant-loop-i
invariant-loop-i l = AreNetworkValues (take l.i l.out) × (map network_in (take l.i l.out) ≡ take l.i (of_both (listed l.lists)))
    × (drop l.count l.out ≡ drop l.count l.fn.out)
