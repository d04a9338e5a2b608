use Rattle.std.proofs.Common.{◌≡◌, ℕ, ◌+◌, ◌*◌, ◌^◌, map, None, Some, subst}
use Rattle.cidr.specs.either.IpAddress.{address_family, plain_bits}
use Rattle.cidr.specs.declared.addr.ip.IpAddr.{IpAddr}
use Rattle.cidr_c.specs.calls.Batches.{AreNetworkValues, bits_in}
use Rattle.cidr_c.specs.calls.Calls.{IsSoughtInMemory}
use Rattle.cidr_c.specs.model.Addresses.{IsAtIndexIn}
use Rattle.cidr_c.specs.model.Values.{IsAddressValue, address_in}
use Rattle.cidr_c.proofs.Counted.{index_found, refused_in_memory, sought_in_memory}
use Rattle.cidr_c.proofs.counting.address_at.Goals as goal

pub returns-in-Ok : goal.returns-in-Ok
returns-in-Ok g c =
    let family = g.C.FamilyCidr.FAMILY in
    let ns = bits_in c.args.networks.now in
    let told = c.in-Ok.ensures in
    let out = c.put_found_address.new.out in
    subst (λ (i : ℕ). IsSoughtInMemory (AreNetworkValues c.args.networks.now) (IsAtIndexIn family ns i None) IsAddressValue address_in
    (λ (a : IpAddr). (address_family a ≡ family) × IsAtIndexIn family ns i (Some (plain_bits a))) c.args.out.now out c.put_found_address.result) c.joined.ensures
    (sought_in_memory (AreNetworkValues c.args.networks.now) (IsAtIndexIn family ns c.joined.result None) IsAddressValue address_in
    (λ (a : IpAddr). (address_family a ≡ family) × IsAtIndexIn family ns c.joined.result (Some (plain_bits a))) c.nth_of.result c.args.out.now out
    c.put_found_address.result told.0
    (index_found family ns (map g.C.BitString.bits c.in-Ok.set) told.1 c.joined.result c.nth_of.result c.nth_of.ensures.at c.nth_of.ensures.family)
    c.put_found_address.ensures)

pub returns-in-Err : goal.returns-in-Err
returns-in-Err g c =
    let family = g.C.FamilyCidr.FAMILY in
    let ns = bits_in c.args.networks.now in
    let i = c.args.high * 2 ^ 64 + c.args.low in
    refused_in_memory (AreNetworkValues c.args.networks.now) (IsAtIndexIn family ns i None) IsAddressValue address_in
    (λ (a : IpAddr). (address_family a ≡ family) × IsAtIndexIn family ns i (Some (plain_bits a))) c.args.out.now c.in-Err.code c.in-Err.ensures
