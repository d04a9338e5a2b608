use Rattle.cidr.specs.declared.addr.ip.IpAddr.{IpAddr}
use Rattle.cidr_ext.specs.model.InsideIpv6.{six_to_four_front}
use Rattle.cidr_c.specs.model.InsideIpv6.{BeginsIpv6, IsSiteOf}
use Rattle.cidr_c.specs.model.Values.{IsAddressValue, address_in}
use Rattle.cidr_c.proofs.Sought.{sought}
use Rattle.cidr_c.proofs.inside_ipv6.pcidr_ipv4_6to4_by_value.Goals as goal

pub returns-in-Some : goal.returns-in-Some
returns-in-Some c =
    sought (IsAddressValue c.args.address) (λ (n : IpAddr). ¬ (BeginsIpv6 six_to_four_front n)) IsAddressValue address_in (λ (n made : IpAddr). IsSiteOf n made) c.in-Some.address (address_in c.args.address) c.ipv4_6to4.result
    c.args.out.now c.put_found_address.new.out c.put_found_address.result c.in-Some.ensures c.ipv4_6to4.ensures c.put_found_address.ensures
