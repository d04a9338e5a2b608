use Rattle.std.proofs.Common.{◌↔◌, length}
use Rattle.cidr_lists.specs.Within.{LineHasOneIn}
use Rattle.cidr_lists.specs.Sets.{IsInSets}
use Rattle.cidr_lists.proofs.sets.Sets.have_one_of.Given as goal

abbrev pub invariant-loop-behind : goal.invariant-loop-behind
invariant-loop-behind l = LineHasOneIn (IsInSets l.self) l.family l.rest ↔ LineHasOneIn (IsInSets l.self) l.family l.line

abbrev pub decreases-loop-behind : goal.decreases-loop-behind
decreases-loop-behind l = length l.rest
