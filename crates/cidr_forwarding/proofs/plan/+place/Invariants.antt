use Rattle.std.proofs.Common.{◌-◌}
use Rattle.cidr_forwarding.proofs.plan.+place.Given as goal

abbrev pub decreases-place : goal.decreases-place
decreases-place g l = 129 - l.depth
