use Rattle.std.proofs.Common.{◌-◌}
use Rattle.cidr_forwarding.proofs.same.+agree.Given as goal

abbrev pub decreases-agree : goal.decreases-agree
decreases-agree g l = 129 - l.depth
