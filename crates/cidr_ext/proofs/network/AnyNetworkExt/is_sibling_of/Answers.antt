use Rattle.cidr_ext.proofs.Halves.{tells_sibling}
use Rattle.cidr_ext.proofs.network.AnyNetworkExt.is_sibling_of.Goals as goal

pub returns-in-Some : goal.returns-in-Some
returns-in-Some g c =
    tells_sibling g.C.BitString.bits g.C.PartialEq.eq g.C.Ord.cmp g.met.C.Ord.matches_eq g.met.C.NetworkBits.ordered
    (g.C.BitString.bits c.args.self.now) c.in-Some.sibling c.args.other.now c.eq.result c.eq.ensures c.in-Some.ensures
