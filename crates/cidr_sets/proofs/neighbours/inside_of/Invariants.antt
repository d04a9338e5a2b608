use Rattle.std.proofs.Common.{ℕ, ◌-◌, ◌<◌, ◌≤◌, length, get_or, map}
use Rattle.cidr.specs.model.Network.{BeginsWith}
use Rattle.cidr_sets.proofs.neighbours.inside_of.Given as goal

-- those so far lie in the network
abbrev pub invariant-loop-end : goal.invariant-loop-end
invariant-loop-end g l =
    let f = g.C.BitString.bits in
    record {
      order : l.start ≤ l.end;
      within : l.end ≤ length l.networks;
      inside : (i : ℕ) → l.start ≤ i → i < l.end → BeginsWith (get_or (map f l.networks) i (f l.outer)) (f l.outer);
    }

abbrev pub decreases-loop-end : goal.decreases-loop-end
decreases-loop-end g l = length l.networks - l.end
