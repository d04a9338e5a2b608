use Rattle.std.proofs.Common.{◌-◌, length}
use Rattle.cidr_sets.proofs.rests.+write_within.Given as goal

-- a half has one bit more
abbrev pub decreases-write_within : goal.decreases-write_within
decreases-write_within g l = 129 - length (g.C.BitString.bits l.network.now)
