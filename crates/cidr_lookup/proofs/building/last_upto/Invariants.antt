use Rattle.std.proofs.Common.{◌+◌, ◌-◌, ◌*◌, ◌^◌, ◌<◌, ◌≤◌, get_or, length, map}
use Rattle.cidr_lookup.proofs.building.last_upto.Given as goal

abbrev pub invariant-loop-range : goal.invariant-loop-range
invariant-loop-range g l = record {
  within : l.range < length l.starts;
  upto : get_or (map g.A.Address.value l.starts) l.range 0 * 2 ^ g.A.Address.padding ≤ (l.block * 64 + l.part) * 2 ^ (6 * (l.steps - 1));
}

abbrev pub decreases-loop-range : goal.decreases-loop-range
decreases-loop-range g l = length l.starts - l.range
