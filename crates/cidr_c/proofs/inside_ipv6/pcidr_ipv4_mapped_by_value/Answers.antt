use Rattle.cidr.specs.declared.cidr.combined.IpCidr.{IpCidr}
use Rattle.cidr_c.specs.model.InsideIpv6.{AreMapped, IsOfMapped}
use Rattle.cidr_c.specs.model.Values.{IsHostValue, IsIpNetworkValue, ip_network_in}
use Rattle.cidr_c.proofs.Sought.{sought}
use Rattle.cidr_c.proofs.inside_ipv6.pcidr_ipv4_mapped_by_value.Goals as goal

pub returns-in-Some : goal.returns-in-Some
returns-in-Some c =
    sought (IsHostValue c.args.host) (λ (n : IpCidr). ¬ (IsOfMapped n)) IsIpNetworkValue ip_network_in (λ (n made : IpCidr). AreMapped made n) c.in-Some.network (ip_network_in c.args.host) c.ipv4_mapped.result
    c.args.out.now c.put_found_network.new.out c.put_found_network.result c.in-Some.ensures c.ipv4_mapped.ensures c.put_found_network.ensures
