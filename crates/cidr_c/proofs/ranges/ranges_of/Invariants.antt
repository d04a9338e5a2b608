use Rattle.std.proofs.Common.{◌≡◌, map}
use Rattle.std.specs.Prelude.{All}
use Rattle.cidr_c.specs.model.Addresses.{IsRangeValue, range_in}
use Rattle.cidr_c.proofs.Listed.{ends_of}
use Rattle.cidr_c.proofs.ranges.ranges_of.Given as goal

-- the ranges so far
abbrev pub invariant-loop-range : goal.invariant-loop-range
invariant-loop-range l = All IsRangeValue l.ranges.items × (map range_in l.ranges.items ≡ map ends_of l.yielded)
