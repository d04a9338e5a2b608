use Rattle.std.proofs.Common.{◌≡◌}
use Rattle.cidr_uses.proofs.ranges_and_back.range_and_back.Given as goal

-- the ranges so far
abbrev pub invariant-loop-range : goal.invariant-loop-range
invariant-loop-range g l = l.ranges.items ≡ l.yielded
