use Rattle.cidr_lookup.proofs.Searching.{IsFound}
use Rattle.cidr_lookup.proofs.search.upto.Given as goal

abbrev pub invariant-loop-i : goal.invariant-loop-i
invariant-loop-i g l = IsFound (g.T.Words.words l.words) l.starts l.count l.word l.found l.i
