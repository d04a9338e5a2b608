use Rattle.std.proofs.Common.{◌≡◌, ℕ}
use Rattle.cidr.specs.declared.addr.ip.IpAddr.{IpAddr}
use Rattle.cidr.specs.declared.cidr.combined.IpCidr.{IpCidr}
use Rattle.cidr.specs.either.IpAddress.{address_family, plain_bits}
use Rattle.cidr.specs.either.IpNetwork.{network_family, network_prefix}
use Rattle.cidr.specs.model.Network.{BeginsWith, width_of}
use Rattle.cidr_ext.specs.model.Inside.{IsAddressAt}
use Rattle.cidr_c.specs.calls.Calls.{IsAnyValue}
use Rattle.cidr_c.specs.model.Tables.{ipv6_number}
use Rattle.cidr_c.specs.model.Values.{IsAddressValue, IsHostValue, address_in, ip_network_in}
use Rattle.cidr_c.proofs.Sought.{sought}
use Rattle.cidr_c.proofs.around.pcidr_position.Goals as goal

pub returns-in-Some-Some : goal.returns-in-Some-Some
returns-in-Some-Some c =
    let both = c.in-Some-Some in
    let one = both.ensures.1 in
    let other = both.ensures'.1 in
    sought (IsHostValue c.args.host.now × IsAddressValue c.args.address.now)
    (λ (p : IpCidr × IpAddr). ¬ ((address_family p.1 ≡ network_family p.0) × BeginsWith (plain_bits p.1) (network_prefix p.0))) IsAnyValue ipv6_number
    (λ (p : IpCidr × IpAddr) (number : ℕ). (address_family p.1 ≡ network_family p.0)
    × IsAddressAt (width_of (network_family p.0)) (network_prefix p.0) number (plain_bits p.1))
    (both.network, both.address) (ip_network_in c.args.host.now, address_in c.args.address.now) c.position.result c.args.index.now c.put_number.new.out
    c.put_number.result ((both.ensures.0, both.ensures'.0), cc (one, other)) c.position.ensures c.put_number.ensures
