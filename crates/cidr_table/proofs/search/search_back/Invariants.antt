use Rattle.cidr_table.proofs.Halving.{GoesBack}
use Rattle.cidr_table.proofs.search.search_back.Given as goal

abbrev pub invariant-loop-high : goal.invariant-loop-high
invariant-loop-high g l = GoesBack g.C.Ord.cmp (g.P.Probe.keys l.fn.rows) (g.P.Probe.keys l.rows) l.key l.end
    (g.P.Probe.count l.fn.rows) (g.P.Probe.count l.rows) l.tries l.high l.far l.left

abbrev pub decreases-loop-high : goal.decreases-loop-high
decreases-loop-high g l = l.left
