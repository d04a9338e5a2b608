use Rattle.std.proofs.Common.{◌≤◌, length, map}
use Rattle.cidr_sets.proofs.Cuts.{IsCutting}
use Rattle.cidr_sets.proofs.rests.write_rests.Given as goal

-- what is left of the networks so far is there
abbrev pub invariant-loop-network : goal.invariant-loop-network
invariant-loop-network g l =
    let f = g.C.BitString.bits in
    IsCutting (map f l.networks) (map f l.others) (map f (g.O.Writable.written l.out)) (map f l.todo) (map f l.left)
    × (g.O.Writable.room l.fn.out ≤ g.O.Writable.room l.out) × g.O.Writable.AreOne l.fn.out l.out

abbrev pub decreases-loop-network : goal.decreases-loop-network
decreases-loop-network g l = length l.todo
