use Rattle.std.proofs.Common.{length}
use Rattle.cidr_c.proofs.PlanLines.{ToldSoFar}
use Rattle.cidr_c.proofs.plans.read.Given as goal

abbrev pub invariant-loop-faults : goal.invariant-loop-faults
invariant-loop-faults l = ToldSoFar l.host_bits l.text l.rest l.number l.at l.rows.items l.faults.items

abbrev pub decreases-loop-faults : goal.decreases-loop-faults
decreases-loop-faults l = length l.rest
