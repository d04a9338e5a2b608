use Rattle.std.proofs.Common.{◌-◌}
use Rattle.cidr_forwarding.proofs.Splits.{IsSplit}
use Rattle.cidr_forwarding.proofs.halves.split.Given as goal

abbrev pub invariant-loop-low : goal.invariant-loop-low
invariant-loop-low g l = IsSplit g.C.BitString.bits l.depth l.rows l.low l.high

abbrev pub decreases-loop-low : goal.decreases-loop-low
decreases-loop-low g l = l.high - l.low
