use Rattle.std.proofs.Common.{◌≡◌, map, take}
use Rattle.cidr_sets.proofs.decisions.indices_of.Given as goal

-- the indices of the rows so far
abbrev pub invariant-loop-row : goal.invariant-loop-row
invariant-loop-row g l = l.out.items ≡ map (λ row. row.1) (take l.row-index l.rows)
