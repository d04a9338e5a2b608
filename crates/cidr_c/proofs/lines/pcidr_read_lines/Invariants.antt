use Rattle.std.proofs.Common.{◌+◌, length, cond}
use Rattle.cidr_c.proofs.LineSteps.{AreSoFar}
use Rattle.cidr_c.proofs.lines.pcidr_read_lines.Given as goal

abbrev pub invariant-loop-more : goal.invariant-loop-more
invariant-loop-more l = AreSoFar l.fn.text l.rest l.more l.fn.out l.n l.out

abbrev pub decreases-loop-more : goal.decreases-loop-more
decreases-loop-more l = cond l.more (length l.rest + 1) 0
