use Rattle.std.proofs.Common.{ℕ, subst, ◌≡◌, ◌≤◌, ◌-◌, ◌^◌, length}
use Rattle.cidr.specs.declared.addr.ip.IpAddr.{IpAddr}
use Rattle.cidr.specs.declared.cidr.combined.IpCidr.{IpCidr}
use Rattle.cidr.specs.either.IpAddress.{address_family, plain_bits}
use Rattle.cidr.specs.either.IpNetwork.{network_family, network_prefix}
use Rattle.cidr.specs.model.Network.{width_of}
use Rattle.cidr_c.proofs.Sought.{sought}
use Rattle.cidr_c.specs.model.Networks.{IsAddressSought}
use Rattle.cidr_c.specs.model.Values.{prefix_in, width_in, IsAddressValue, IsHostValue, address_in, ip_network_in}
use Rattle.cidr_ext.specs.model.Inside.{IsAddressAt}
use Rattle.cidr_c.proofs.around.pcidr_nth_by_value.Goals as goal

pub returns-in-Some : goal.returns-in-Some
returns-in-Some c =
    subst (λ (i : ℕ). IsAddressSought c.args.host (2 ^ (width_in c.args.host - length (prefix_in c.args.host)) ≤ i) (IsAddressAt (width_in c.args.host) (prefix_in c.args.host) i) c.args.out.now c.put_found_address.new.out c.put_found_address.result) c.joined.ensures
    (sought (IsHostValue c.args.host) (λ (n : IpCidr). 2 ^ (width_of (network_family n) - length (network_prefix n)) ≤ c.joined.result) IsAddressValue address_in
    (λ (n : IpCidr) (made : IpAddr). (address_family made ≡ network_family n) × IsAddressAt (width_of (network_family n)) (network_prefix n) c.joined.result (plain_bits made))
    c.in-Some.network (ip_network_in c.args.host) c.nth.result c.args.out.now c.put_found_address.new.out c.put_found_address.result
    c.in-Some.ensures c.nth.ensures c.put_found_address.ensures)
