use Rattle.std.proofs.Common.{◌≡◌, []}
use Rattle.cidr.specs.declared.cidr.combined.IpCidr.{IpCidr}
use Rattle.cidr.specs.either.IpNetwork.{network_family, network_prefix}
use Rattle.cidr_c.proofs.Sought.{sought}
use Rattle.cidr_c.specs.model.Values.{IsHostValue, IsIpNetworkValue, ip_network_in}
use Rattle.cidr_ext.specs.model.Tree.{IsHalfOf}
use Rattle.cidr_c.proofs.around.pcidr_parent_by_value.Goals as goal

pub returns-in-Some : goal.returns-in-Some
returns-in-Some c =
    sought (IsHostValue c.args.host) (λ (n : IpCidr). network_prefix n ≡ []) IsIpNetworkValue ip_network_in
    (λ (n made : IpCidr). (network_family made ≡ network_family n) × IsHalfOf (network_prefix n) (network_prefix made))
    c.in-Some.network (ip_network_in c.args.host) c.parent.result c.args.out.now c.put_found_network.new.out c.put_found_network.result
    c.in-Some.ensures c.parent.ensures c.put_found_network.ensures
