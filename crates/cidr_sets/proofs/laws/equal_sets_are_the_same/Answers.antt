use Rattle.cidr_sets.proofs.Equality.{lists_tell, map_same}
use Rattle.cidr_sets.proofs.laws.equal_sets_are_the_same.Goals as goal

pub returns-clause-eq : goal.returns-clause-eq
returns-clause-eq g c = lists_tell g.C.BitString.bits g.met.C.NetworkBits.determined g.C.Ord.cmp g.met.C.NetworkBits.ordered
    g.C.PartialEq.eq g.met.C.Ord.matches_eq g.met.C.Eq.laws

pub returns-clause-bits : goal.returns-clause-bits
returns-clause-bits g c = map_same g.C.BitString.bits g.met.C.NetworkBits.determined
