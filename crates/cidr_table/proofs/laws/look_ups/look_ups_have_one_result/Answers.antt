use Rattle.cidr_table.proofs.OneResult.{looked_up_once}
use Rattle.cidr_table.proofs.laws.look_ups.look_ups_have_one_result.Goals as goal

pub returns : goal.returns
returns g c rows asked one other sorted =
    looked_up_once g.C.BitString.bits g.C.Ord.cmp g.met.C.Ord.total g.met.C.NetworkBits.determined asked rows sorted one other
