use Rattle.std.proofs.Common.{◌-◌}
use Rattle.cidr_forwarding.proofs.plan.+measure.Given as goal

abbrev pub decreases-measure : goal.decreases-measure
decreases-measure g l = 129 - l.depth
