use Rattle.cidr_sets.proofs.Distinct.{IsFront}
use Rattle.cidr_sets.proofs.slices.keep_distinct.Given as goal

-- of the elements so far those that are kept stand in front, and those to come are as they were
abbrev pub invariant-loop-i : goal.invariant-loop-i
invariant-loop-i g l = IsFront g.C.PartialEq.eq l.fn.elements l.i l.kept l.elements
