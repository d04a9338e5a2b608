use Rattle.std.proofs.Common.{length}
use Rattle.cidr_lists.proofs.OpenNetworks.{StillCloses}
use Rattle.cidr_lists.proofs.near.close.Given as goal

abbrev pub invariant-loop-row : goal.invariant-loop-row
invariant-loop-row g l = StillCloses g.C.BitString.bits l.network l.initial.nest.items l.nest.items l.closed

abbrev pub decreases-loop-row : goal.decreases-loop-row
decreases-loop-row g l = length l.nest.items
