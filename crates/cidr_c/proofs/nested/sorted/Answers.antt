use Rattle.cidr_lists.proofs.NumberedRows.{ascending}
use Rattle.cidr_c.proofs.nested.sorted.Goals as goal

pub returns-clause-ascending : goal.returns-clause-ascending
returns-clause-ascending g c =
    ascending g.C.Ord.cmp g.C.BitString.bits g.met.C.Ord.total g.met.C.NetworkBits.ordered c.sort_unstable.new.self.items c.sort_unstable.ensures.sorted
