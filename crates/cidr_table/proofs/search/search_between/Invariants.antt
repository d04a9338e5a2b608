use Rattle.std.proofs.Common.{◌-◌, false}
use Rattle.cidr_table.proofs.Halving.{Leaves}
use Rattle.cidr_table.proofs.search.search_between.Given as goal

abbrev pub invariant-loop-left : goal.invariant-loop-left
invariant-loop-left g l = Leaves g.C.Ord.cmp (g.P.Probe.keys l.fn.rows) (g.P.Probe.keys l.rows) l.key l.end (l.end - l.start)
    (g.P.Probe.count l.fn.rows) (g.P.Probe.count l.rows) l.low l.left false

abbrev pub decreases-loop-left : goal.decreases-loop-left
decreases-loop-left g l = l.left
