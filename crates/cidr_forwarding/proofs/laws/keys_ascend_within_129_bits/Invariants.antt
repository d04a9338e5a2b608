use Rattle.std.proofs.Common.{◌≤◌, length, take}
use Rattle.std.specs.List.{All}
use Rattle.cidr_forwarding.proofs.laws.keys_ascend_within_129_bits.Given as goal

abbrev pub invariant-loop-row : goal.invariant-loop-row
invariant-loop-row g l = All (λ r. length (g.C.BitString.bits r.0) ≤ 129) (take l.row-index l.rows)
