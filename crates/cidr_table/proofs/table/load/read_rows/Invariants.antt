-- The prefixes before the rest are read, each with its place.
use Rattle.std.proofs.Common.{◌≡◌, List, length}
use Rattle.cidr_table.specs.model.Loading.{IsListed, placed}
use Rattle.cidr_table.proofs.table.load.read_rows.Given as goal

abbrev pub invariant-loop-rest : goal.invariant-loop-rest
invariant-loop-rest g l = (keys : List g.row.C.Denot) × IsListed g.C.BitString.bits g.C.PrefixBytes.width keys l.rest l.bytes × (l.rows.items ≡ placed 0 keys)

abbrev pub decreases-loop-rest : goal.decreases-loop-rest
decreases-loop-rest g l = length l.rest
