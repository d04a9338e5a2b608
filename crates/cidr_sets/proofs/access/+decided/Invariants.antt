use Rattle.std.proofs.Common.{length}
use Rattle.cidr_sets.proofs.access.+decided.Given as goal

abbrev pub decreases-decided : goal.decreases-decided
decreases-decided g l = length l.rules.now
