use Rattle.cidr_table.proofs.Narrowing.{Narrowed}
use Rattle.cidr_table.proofs.lookup.longest_match.Given as goal

abbrev pub invariant-loop-end : goal.invariant-loop-end
invariant-loop-end g l = Narrowed g.C.BitString.bits (g.P.Probe.keys l.fn.rows) (g.P.Probe.keys l.rows) l.asked (g.P.Probe.count l.fn.rows) (g.P.Probe.count l.rows) l.end l.len l.spare l.digits

abbrev pub decreases-loop-end : goal.decreases-loop-end
decreases-loop-end g l = l.len
