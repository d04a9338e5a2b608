-- The places of the groups so far.
use Rattle.std.proofs.Common.{◌≡◌, ◌==◌, map, take}
use Rattle.cidr.specs.model.Bits.{number}
use Rattle.cidr.proofs.addr.print_v6.zero_places.Given as goal

abbrev pub invariant-loop-group : goal.invariant-loop-group
invariant-loop-group l = l.places ≡ number (map (λ g. g == 0) (take l.group-index l.groups))
