use Rattle.cidr.specs.declared.addr.ip.IpAddr.{IpAddr}
use Rattle.cidr_ext.specs.model.InsideIpv6.{nat64_front}
use Rattle.cidr_c.specs.model.InsideIpv6.{BeginsIpv6, IsTranslated}
use Rattle.cidr_c.specs.model.Values.{IsAddressValue, address_in}
use Rattle.cidr_c.proofs.Sought.{sought}
use Rattle.cidr_c.proofs.inside_ipv6.pcidr_ipv4_nat64_by_value.Goals as goal

pub returns-in-Some : goal.returns-in-Some
returns-in-Some c =
    sought (IsAddressValue c.args.address) (λ (n : IpAddr). ¬ (BeginsIpv6 nat64_front n)) IsAddressValue address_in (λ (n made : IpAddr). IsTranslated n made) c.in-Some.address (address_in c.args.address) c.ipv4_nat64.result
    c.args.out.now c.put_found_address.new.out c.put_found_address.result c.in-Some.ensures c.ipv4_nat64.ensures c.put_found_address.ensures
