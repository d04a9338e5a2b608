use Rattle.std.specs.Map.{keys_of}
use Rattle.cidr_table.proofs.Passing.{IsPassed}
use Rattle.cidr_table.proofs.table.cover.least_cover.Given as goal

abbrev pub invariant-loop-row : goal.invariant-loop-row
invariant-loop-row g l = IsPassed g.C.BitString.bits 129 (keys_of l.rows) l.out l.row-index l.n
