use Rattle.std.proofs.Common.{◌+◌, ◌≤◌, length, map}
use Rattle.cidr_sets.proofs.Steps.{IsSharing}
use Rattle.cidr_sets.proofs.merging.write_shared.Given as goal

-- what both have so far is there
abbrev pub invariant-loop-shared : goal.invariant-loop-shared
invariant-loop-shared g l =
    let f = g.C.BitString.bits in
    let xs = g.O.Writable.written l.out in
    IsSharing (map f l.these) (map f l.those) (length xs) (map f xs) (map f l.left) (map f l.right)
    × (length l.these + length l.those ≤ g.O.Writable.room l.out + 1) × g.O.Writable.AreOne l.fn.out l.out

abbrev pub decreases-loop-shared : goal.decreases-loop-shared
decreases-loop-shared g l = length l.left + length l.right
