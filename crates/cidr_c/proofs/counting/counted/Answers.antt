use Rattle.std.proofs.Common.{◌^◌, map}
use Rattle.cidr.specs.model.Network.{width_of}
use Rattle.cidr_sets.specs.model.Counts.{HaveCount}
use Rattle.cidr_c.specs.calls.Batches.{AreNetworkValues, bits_in}
use Rattle.cidr_c.specs.calls.Calls.{IsAnyValue}
use Rattle.cidr_c.specs.model.Addresses.{HaveCountIn}
use Rattle.cidr_c.specs.model.Tables.{ipv6_number}
use Rattle.cidr_c.proofs.Counted.{count_of, match_more, refused_in_memory, sought_in_memory}
use Rattle.cidr_c.proofs.counting.counted.Goals as goal

pub returns-in-Ok : goal.returns-in-Ok
returns-in-Ok g c =
    let family = g.C.FamilyCidr.FAMILY in
    let ns = bits_in c.args.networks.now in
    let own = map g.C.BitString.bits c.in-Ok.set in
    let told = c.in-Ok.ensures in
    let of = count_of family ns own told.1 in
    sought_in_memory (AreNetworkValues c.args.networks.now) (HaveCountIn family ns (2 ^ 128)) IsAnyValue ipv6_number (HaveCountIn family ns)
    c.address_count.result c.args.count.now c.put_number.new.out c.put_number.result told.0
    (match_more (HaveCount (width_of family) own (2 ^ 128)) (HaveCountIn family ns (2 ^ 128)) (HaveCount (width_of family) own) (HaveCountIn family ns)
    c.address_count.result (of (2 ^ 128)) of c.address_count.ensures)
    c.put_number.ensures

pub returns-in-Err : goal.returns-in-Err
returns-in-Err g c =
    let family = g.C.FamilyCidr.FAMILY in
    let ns = bits_in c.args.networks.now in
    refused_in_memory (AreNetworkValues c.args.networks.now) (HaveCountIn family ns (2 ^ 128)) IsAnyValue ipv6_number (HaveCountIn family ns) c.args.count.now
    c.in-Err.code c.in-Err.ensures
