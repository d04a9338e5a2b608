use Rattle.std.proofs.Common.{◌≡◌, refl, Some, List, Bool, subst}
use Rattle.cidr.specs.declared.addr.ip.IpAddr.{IpAddr}
use Rattle.cidr.specs.declared.cidr.combined.IpCidr.{IpCidr}
use Rattle.cidr.specs.declared.family.Family.{Family}
use Rattle.cidr.specs.either.IpAddress.{address_family, plain_bits}
use Rattle.cidr.specs.either.IpNetwork.{network_family, network_prefix}
use Rattle.cidr_ext.specs.model.Special.{HasNoEntry, IsEntryOf}
use Rattle.cidr_ext.specs.declared.registry.SpecialEntry.{SpecialEntry}
use Rattle.cidr_c.specs.calls.Calls.{IsAnyValue}
use Rattle.cidr_c.specs.model.Special.{special_of}
use Rattle.cidr_c.specs.model.Values.{IsAddressValue, address_in}
use Rattle.cidr_c.specs.declared.special.CSpecial.{CSpecial}
use Rattle.cidr_c.proofs.NetworkBlocks.{of_address}
use Rattle.cidr_c.proofs.Sought.{sought}
use Rattle.cidr_c.proofs.special.pcidr_special_entry.Goals as goal

pub returns : goal.returns
returns c =
    let entry = c.in-Some-entry_of.entry.now in
    let told = of_address (λ (f : Family) (bits : List Bool). IsEntryOf f bits entry) c.in-Some.address
    (subst (λ (n : IpCidr). IsEntryOf (network_family n) (network_prefix n) entry) c.new_host.ensures.value c.in-Some-entry_of.ensures) in
    sought (IsAddressValue c.args.address.now) (λ (a : IpAddr). HasNoEntry (address_family a) (plain_bits a)) IsAnyValue (λ special. special)
    (λ (a : IpAddr) (special : CSpecial). (entry : SpecialEntry) × IsEntryOf (address_family a) (plain_bits a) entry × (special ≡ special_of entry))
    c.in-Some.address (address_in c.args.address.now) (Some c.put_entry.new.out) c.args.out.now c.put_entry.new.out 0
    c.in-Some.ensures (entry, told, c.put_entry.ensures) (refl, tt, refl)
