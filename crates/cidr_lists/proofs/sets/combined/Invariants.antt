use Rattle.std.proofs.Common.{take}
use Rattle.cidr_lists.proofs.SetSteps.{IsCombined}
use Rattle.cidr_lists.proofs.sets.combined.Given as goal

abbrev pub invariant-loop-other : goal.invariant-loop-other
invariant-loop-other l = IsCombined l.step l.fn.first (take l.other-index l.others) l.all
