use Rattle.std.proofs.Common.{◌+◌, ◌≤◌, length, map}
use Rattle.cidr_sets.proofs.Steps.{IsMerged}
use Rattle.cidr_sets.proofs.merging.write_merged.Given as goal

-- the networks so far are there, and no others
abbrev pub invariant-loop-network : goal.invariant-loop-network
invariant-loop-network g l =
    let f = g.C.BitString.bits in
    let xs = g.O.Writable.written l.out in
    IsMerged (map f l.these) (map f l.those) (length xs) (map f xs) (map f l.left) (map f l.right)
    × (length l.these + length l.those ≤ g.O.Writable.room l.out) × g.O.Writable.AreOne l.fn.out l.out

abbrev pub decreases-loop-network : goal.decreases-loop-network
decreases-loop-network g l = length l.left + length l.right
