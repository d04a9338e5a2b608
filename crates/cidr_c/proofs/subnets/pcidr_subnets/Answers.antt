use Rattle.std.proofs.Common.{ℕ, subst}
use Rattle.cidr_c.specs.model.Networks.{AreSubnetsPut}
use Rattle.cidr_c.proofs.SubnetLists.{subnets_put}
use Rattle.cidr_c.proofs.subnets.pcidr_subnets.Goals as goal

pub returns : goal.returns
returns c =
    let out = c.put_subnets.new.out in
    subst (λ (i : ℕ). AreSubnetsPut c.args.host.now c.args.len i c.args.out.now out c.args.count.now c.put_subnets.result 0) c.joined.ensures
    (subnets_put c.args.host.now c.in-Some.network c.args.len c.joined.result c.args.out.now out c.args.count.now c.put_subnets.result
    c.in-Some.ensures c.put_subnets.ensures)
