use Rattle.std.proofs.Common.{subst, sym, ◌∙◌}
use Rattle.cidr.specs.declared.addr.ip.IpAddr.{IpAddr}
use Rattle.cidr.specs.either.IpNetwork.{network_family, network_prefix}
use Rattle.cidr_ext.specs.model.Inside.{usable_of}
use Rattle.cidr_c.specs.model.Networks.{IsFirstHost}
use Rattle.cidr_c.proofs.Hosts.{first_host}
use Rattle.cidr_c.proofs.around.first_usable.Goals as goal

pub returns : goal.returns
returns c =
    let usable = usable_of (network_family c.args.network.now) (network_prefix c.args.network.now) in
    subst (λ (a : IpAddr). IsFirstHost usable a) (sym c.address.ensures.value)
    (first_host c.in_ok-host.host usable _ (sym c.usable_hosts-hosts.ensures ∙ c.in_ok-host.ensures.steps))
