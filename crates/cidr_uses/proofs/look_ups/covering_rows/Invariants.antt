use Rattle.std.proofs.Common.{◌++◌}
use Rattle.cidr_table.specs.model.Prefixes.{AreMatching, AreShortestFirst}
use Rattle.cidr_uses.proofs.look_ups.covering_rows.Given as goal

-- the rows so far and those that are left are all matches
abbrev pub invariant-loop-row : goal.invariant-loop-row
invariant-loop-row g l =
    (goal.iterator-loop-row g).can_next l.row-iterator
    × (goal.iterator-loop-row g).is_finite l.row-iterator
    × AreMatching g.C.BitString.bits (g.C.BitString.bits l.asked) l.routes.rows (l.rows.items ++ l.row-iterator)
    × AreShortestFirst g.C.BitString.bits (l.rows.items ++ l.row-iterator)
