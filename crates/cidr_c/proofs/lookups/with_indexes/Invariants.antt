use Rattle.std.proofs.Common.{◌≡◌, take}
use Rattle.cidr_table.specs.model.Loading.{placed}
use Rattle.cidr_c.proofs.lookups.with_indexes.Given as goal

abbrev pub invariant-loop-i : goal.invariant-loop-i
invariant-loop-i l = l.rows.items ≡ placed 0 (take l.i l.networks)
