-- the rows that were passed over have no key that begins the asked bits
use Rattle.std.proofs.Common.{◌≡◌, length}
use Rattle.std.specs.List.Sorted.{IsStrictlySortedBy}
use Rattle.std.specs.Map.{keys_of}
use Rattle.cidr_table.specs.internal.Places.{matching}
use Rattle.cidr_table.proofs.table.matches.first_match.Given as goal

abbrev pub invariant-loop-row : goal.invariant-loop-row
invariant-loop-row g l =
    (matching g.C.BitString.bits (g.C.BitString.bits l.asked) l.rows ≡ matching g.C.BitString.bits (g.C.BitString.bits l.asked) l.rest)
    × IsStrictlySortedBy g.C.Ord.cmp (keys_of l.rest)

abbrev pub decreases-loop-row : goal.decreases-loop-row
decreases-loop-row g l = length l.rest
