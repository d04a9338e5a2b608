use Rattle.std.proofs.Common.{◌≡◌, drop}
use Rattle.cidr_table.proofs.Passing.{IsPassed}
use Rattle.cidr_table.proofs.table.cover.least_cover_in_place.Given as goal

-- the networks so far stand before the place, and those to come are as they were
abbrev pub invariant-loop-i : goal.invariant-loop-i
invariant-loop-i g l =
    record {
      passed : IsPassed g.C.BitString.bits 129 l.fn.networks l.networks l.i l.n;
      rest : drop l.i l.networks ≡ drop l.i l.fn.networks;
    }
