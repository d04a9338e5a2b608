use Rattle.std.proofs.Common.{length}
use Rattle.cidr_sets.proofs.Deciding.{AreDecided}
use Rattle.cidr_sets.proofs.decisions.parts_of.Given as goal

-- the parts of the rows so far
abbrev pub invariant-loop-row : goal.invariant-loop-row
invariant-loop-row g l = AreDecided g.C.BitString.bits (length l.fn.rules) l.initial.left l.left l.parts.items

abbrev pub decreases-loop-row : goal.decreases-loop-row
decreases-loop-row g l = length l.left
