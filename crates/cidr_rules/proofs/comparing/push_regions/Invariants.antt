use Rattle.std.proofs.Common.{◌≡◌, ◌++◌, map, take}
use Rattle.cidr_rules.proofs.Telling.{difference_of}
use Rattle.cidr_rules.proofs.comparing.push_regions.Given as goal

abbrev pub invariant-loop-region : goal.invariant-loop-region
invariant-loop-region g l = l.out.items ≡ l.initial.out.items ++ map (difference_of l.rule l.other) (take l.region-index l.regions)
