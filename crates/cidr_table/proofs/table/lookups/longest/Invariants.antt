use Rattle.std.proofs.Common.{length}
use Rattle.std.specs.Map.{keys_of}
use Rattle.cidr_table.specs.internal.Reached.{IsReached}
use Rattle.cidr_table.proofs.table.lookups.longest.Given as goal

abbrev pub invariant-loop-end : goal.invariant-loop-end
invariant-loop-end g l = (any : g.row.C.Denot) → IsReached g.C.BitString.bits (keys_of l.rows) any (g.C.BitString.bits l.asked) (length l.rows) l.end

abbrev pub decreases-loop-end : goal.decreases-loop-end
decreases-loop-end g l = l.end
