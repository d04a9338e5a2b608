use Rattle.std.proofs.Common.{◌-◌}
use Rattle.cidr_forwarding.proofs.differing.+differ.Given as goal

abbrev pub decreases-differ : goal.decreases-differ
decreases-differ g l = 129 - l.depth
