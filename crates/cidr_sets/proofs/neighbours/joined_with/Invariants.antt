use Rattle.std.proofs.Common.{◌≤◌, length, take, drop, map}
use Rattle.cidr_sets.proofs.Edits.{IsJoined}
use Rattle.cidr_sets.proofs.neighbours.joined_with.Given as goal

-- the network so far has no other addresses than that of the set and of the one to be added
abbrev pub invariant-loop-from : goal.invariant-loop-from
invariant-loop-from g l =
    let f = g.C.BitString.bits in
    record {
      order : l.start ≤ l.end;
      within : l.end ≤ length l.networks;
      joined : IsJoined (map f l.networks) (f l.network) (f l.whole) (map f (take l.start l.networks)) (map f (drop l.end l.networks));
    }

abbrev pub decreases-loop-from : goal.decreases-loop-from
decreases-loop-from g l = length (g.C.BitString.bits l.whole)
