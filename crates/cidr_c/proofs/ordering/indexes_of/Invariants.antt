use Rattle.std.proofs.Common.{◌≡◌, ℕ, map, take}
use Rattle.cidr.specs.declared.cidr.any.AnyIpCidr.{AnyIpCidr}
use Rattle.cidr_c.proofs.ordering.indexes_of.Given as goal

abbrev pub invariant-loop-i : goal.invariant-loop-i
invariant-loop-i l = l.indexes.items ≡ map (λ (row : AnyIpCidr × ℕ). row.1) (take l.i l.rows)
