use Rattle.std.proofs.Common.{ℕ, subst, ◌≡◌}
use Rattle.cidr.specs.declared.cidr.combined.IpCidr.{IpCidr}
use Rattle.cidr.specs.either.IpNetwork.{network_family, network_prefix}
use Rattle.cidr.specs.model.Network.{width_of}
use Rattle.cidr_c.proofs.Sought.{sought}
use Rattle.cidr_c.specs.model.Networks.{IsNetworkSought}
use Rattle.cidr_c.specs.model.Values.{prefix_in, width_in, IsHostValue, IsIpNetworkValue, ip_network_in}
use Rattle.cidr_ext.specs.model.Subnets.{IsSubnetAt, NoSubnetAt}
use Rattle.cidr_c.proofs.around.pcidr_subnet_by_value.Goals as goal

pub returns-in-Some : goal.returns-in-Some
returns-in-Some c =
    subst (λ (i : ℕ). IsNetworkSought c.args.host (NoSubnetAt (width_in c.args.host) (prefix_in c.args.host) c.args.len i) (IsSubnetAt (prefix_in c.args.host) c.args.len i) c.args.out.now c.put_found_network.new.out c.put_found_network.result) c.joined.ensures
    (sought (IsHostValue c.args.host) (λ (n : IpCidr). NoSubnetAt (width_of (network_family n)) (network_prefix n) c.args.len c.joined.result) IsIpNetworkValue ip_network_in
    (λ (n made : IpCidr). (network_family made ≡ network_family n) × IsSubnetAt (network_prefix n) c.args.len c.joined.result (network_prefix made))
    c.in-Some.network (ip_network_in c.args.host) c.subnet.result c.args.out.now c.put_found_network.new.out c.put_found_network.result
    c.in-Some.ensures c.subnet.ensures.value c.put_found_network.ensures)
