use Rattle.std.proofs.Common.{◌≡◌, ◌-◌, length}
use Rattle.cidr_sets.specs.internal.Deciding.{AscendFrom}
use Rattle.cidr_sets.proofs.Deciding.{StandsFor}
use Rattle.cidr_sets.proofs.decisions.+push_parts.Given as goal

-- the rows so far lie in the network, and don't halve it
abbrev pub invariant-loop-row : goal.invariant-loop-row
invariant-loop-row g l =
    let f = g.C.BitString.bits in
    record {
      parts : l.parts.items ≡ l.fn.parts.items;
      from : AscendFrom f (f l.network) l.left;
      left : StandsFor f (f l.network) l.index l.least l.left l.rows;
    }

abbrev pub decreases-loop-row : goal.decreases-loop-row
decreases-loop-row g l = length l.left

-- a half has one bit more
abbrev pub decreases-push_parts : goal.decreases-push_parts
decreases-push_parts g l = 129 - length (g.C.BitString.bits l.network.now)
