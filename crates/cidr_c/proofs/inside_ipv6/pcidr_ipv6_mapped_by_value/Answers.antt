use Rattle.std.proofs.Common.{◌≡◌}
use Rattle.cidr.specs.either.IpNetwork.{network_family}
use Rattle.cidr.specs.declared.cidr.combined.IpCidr.{IpCidr}
use Rattle.cidr.specs.declared.family.Family.TheVariants.{Ipv6}
use Rattle.cidr_c.specs.model.InsideIpv6.{AreMapped}
use Rattle.cidr_c.specs.model.Values.{IsHostValue, IsIpNetworkValue, ip_network_in}
use Rattle.cidr_c.proofs.Sought.{sought}
use Rattle.cidr_c.proofs.inside_ipv6.pcidr_ipv6_mapped_by_value.Goals as goal

pub returns-in-Some : goal.returns-in-Some
returns-in-Some c =
    sought (IsHostValue c.args.host) (λ (n : IpCidr). network_family n ≡ Ipv6) IsIpNetworkValue ip_network_in (λ (n made : IpCidr). AreMapped n made) c.in-Some.network (ip_network_in c.args.host) c.ipv6_mapped.result
    c.args.out.now c.put_found_network.new.out c.put_found_network.result c.in-Some.ensures c.ipv6_mapped.ensures c.put_found_network.ensures
