use Rattle.std.proofs.Common.{length}
use Rattle.cidr_rows.proofs.search.+covering.Given as goal

abbrev pub decreases-covering : goal.decreases-covering
decreases-covering g l = length (g.C.BitString.bits l.asked.now)
