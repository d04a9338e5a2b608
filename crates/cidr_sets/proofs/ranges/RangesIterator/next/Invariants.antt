use Rattle.std.proofs.Common.{◌≡◌, ◌∷◌, length, map}
use Rattle.cidr_sets.specs.model.Ranges.{joined_ranges}
use Rattle.cidr_sets.proofs.Runs.{begun}
use Rattle.cidr_sets.proofs.ranges.RangesIterator.next.Given as goal

-- the last network so far begins the same ranges but for the first network of the first one
abbrev pub invariant-loop-next : goal.invariant-loop-next
invariant-loop-next g l =
    let f = g.C.BitString.bits in
    begun (f l.first) (joined_ranges (f l.initial.last ∷ map f l.initial.behind)) ≡ begun (f l.first) (joined_ranges (f l.last ∷ map f l.behind))

abbrev pub decreases-loop-next : goal.decreases-loop-next
decreases-loop-next g l = length l.behind
