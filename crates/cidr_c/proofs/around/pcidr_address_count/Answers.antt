use Rattle.std.proofs.Common.{◌≡◌, ◌-◌, ◌^◌, length, ℕ}
use Rattle.cidr.specs.declared.cidr.combined.IpCidr.{IpCidr}
use Rattle.cidr.specs.either.IpNetwork.{network_family, network_prefix}
use Rattle.cidr.specs.model.Network.{width_of}
use Rattle.cidr_c.specs.calls.Calls.{IsAnyValue}
use Rattle.cidr_c.proofs.Sought.{sought}
use Rattle.cidr_c.specs.model.Tables.{ipv6_number}
use Rattle.cidr_c.specs.model.Values.{IsHostValue, ip_network_in}
use Rattle.cidr_c.proofs.around.pcidr_address_count.Goals as goal

pub returns-in-Some : goal.returns-in-Some
returns-in-Some c =
    sought (IsHostValue c.args.host.now) (λ (n : IpCidr). width_of (network_family n) - length (network_prefix n) ≡ 128) IsAnyValue ipv6_number
    (λ (n : IpCidr) (number : ℕ). number ≡ 2 ^ (width_of (network_family n) - length (network_prefix n)))
    c.in-Some.network (ip_network_in c.args.host.now) c.address_count.result c.args.count.now c.put_number.new.out c.put_number.result
    c.in-Some.ensures c.address_count.ensures c.put_number.ensures
