use Rattle.std.proofs.Common.{IsTrue, ◌↔◌, List, Bool, subst}
use Rattle.cidr.specs.declared.addr.ip.IpAddr.{IpAddr}
use Rattle.cidr.specs.declared.cidr.combined.IpCidr.{IpCidr}
use Rattle.cidr.specs.declared.family.Family.{Family}
use Rattle.cidr.specs.either.IpAddress.{address_family, plain_bits}
use Rattle.cidr.specs.either.IpNetwork.{network_family, network_prefix}
use Rattle.cidr_c.proofs.NetworkBlocks.{of_address}
use Rattle.cidr_c.proofs.Sought.{answered}
use Rattle.cidr_c.specs.model.Values.{IsAddressValue, address_in}
use Rattle.cidr_ext.specs.model.Special.{IsGlobal}
use Rattle.cidr_c.proofs.special.pcidr_is_global.Goals as goal

pub returns-in-Some : goal.returns-in-Some
returns-in-Some c =
    let told = subst (λ (n : IpCidr). IsTrue c.is_global.result ↔ IsGlobal (network_family n) (network_prefix n)) c.new_host.ensures.value c.is_global.ensures in
    answered (IsAddressValue c.args.address.now) (λ (a : IpAddr). IsGlobal (address_family a) (plain_bits a))
    c.in-Some.address (address_in c.args.address.now) c.is_global.result c.yes_or_no.result c.in-Some.ensures
    (of_address (λ (f : Family) (bits : List Bool). IsTrue c.is_global.result ↔ IsGlobal f bits) c.in-Some.address told) c.yes_or_no.ensures
