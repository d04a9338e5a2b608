use Rattle.std.proofs.Common.{◌-◌, length}
use Rattle.cidr_sets.proofs.spans.+write_between.Given as goal

-- a half has one bit more
abbrev pub decreases-write_between : goal.decreases-write_between
decreases-write_between g l = 129 - length (g.C.BitString.bits l.network.now)
