use Rattle.std.proofs.Common.{◌≡◌, []}
use Rattle.cidr.specs.declared.cidr.combined.IpCidr.{IpCidr}
use Rattle.cidr.specs.either.IpNetwork.{network_family, network_prefix}
use Rattle.cidr_ext.specs.model.Inside.{usable_of}
use Rattle.cidr_c.specs.model.Networks.{IsFirstHost}
use Rattle.cidr_c.specs.model.Values.{IsAddressValue, IsHostValue, address_in, ip_network_in}
use Rattle.cidr_c.proofs.Sought.{sought}
use Rattle.cidr_c.proofs.around.pcidr_first_usable_by_value.Goals as goal

pub returns-in-Some : goal.returns-in-Some
returns-in-Some c =
    sought (IsHostValue c.args.host) (λ (n : IpCidr). usable_of (network_family n) (network_prefix n) ≡ []) IsAddressValue address_in
    (λ (n : IpCidr). IsFirstHost (usable_of (network_family n) (network_prefix n)))
    c.in-Some.network (ip_network_in c.args.host) c.first_usable.result c.args.out.now c.put_found_address.new.out c.put_found_address.result
    c.in-Some.ensures c.first_usable.ensures c.put_found_address.ensures
