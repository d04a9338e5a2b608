use Rattle.std.proofs.Common.{slice_index_or}
use Rattle.cidr_table.proofs.SharedLengths.{Shares}
use Rattle.cidr_table.proofs.search.shared_len.Given as goal

abbrev pub invariant-loop-left : goal.invariant-loop-left
invariant-loop-left g l = Shares (g.P.Probe.keys l.fn.rows) (g.P.Probe.keys l.rows)
    (g.C.BitString.bits (slice_index_or (g.P.Probe.keys l.fn.rows) l.index l.asked)) (g.C.BitString.bits l.asked) l.most (g.P.Probe.count l.fn.rows) (g.P.Probe.count l.rows) l.low l.left

abbrev pub decreases-loop-left : goal.decreases-loop-left
decreases-loop-left g l = l.left
