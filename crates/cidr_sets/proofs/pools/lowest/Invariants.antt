use Rattle.std.proofs.Common.{◌-◌, length}
use Rattle.cidr_sets.proofs.Free.{IsBegun}
use Rattle.cidr_sets.proofs.pools.lowest.Given as goal

abbrev pub invariant-loop-lowest : goal.invariant-loop-lowest
invariant-loop-lowest g l = IsBegun (g.C.BitString.bits l.network) (g.C.BitString.bits l.lowest) l.len (g.C.BitString.room l.lowest)

abbrev pub decreases-loop-lowest : goal.decreases-loop-lowest
decreases-loop-lowest g l = l.len - length (g.C.BitString.bits l.lowest)
