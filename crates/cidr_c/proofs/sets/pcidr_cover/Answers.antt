use Rattle.cidr_c.proofs.NetworkLists.{left}
use Rattle.cidr_c.proofs.sets.pcidr_cover.Goals as goal

pub returns-in-Ok : goal.returns-in-Ok
returns-in-Ok c =
    left c.args.networks.now c.put.new.out c.in-Ok.set c.as_slice.result.now c.args.count.now c.len.result c.as_slice.ensures.networks c.len.ensures
    c.in-Ok.ensures c.put.ensures.networks c.put.ensures.values c.put.ensures.behind
