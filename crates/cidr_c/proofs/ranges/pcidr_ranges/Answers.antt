use Rattle.std.proofs.Common.{List, map, subst}
use Rattle.cidr.specs.either.IpNetwork.{any_bits}
use Rattle.cidr_table.specs.model.Cover.{Covers}
use Rattle.cidr_sets.specs.model.Ranges.{AreRanges}
use Rattle.cidr_c.specs.calls.Batches.{AreNetworkValues, IsListPut, bits_in}
use Rattle.cidr_c.specs.model.Addresses.{IsRangeValue, range_in}
use Rattle.cidr_c.specs.declared.ranges.CRange.{CRange}
use Rattle.cidr_c.proofs.Listed.{listed, ranges_alike}
use Rattle.cidr_c.proofs.ranges.pcidr_ranges.Goals as goal

pub returns-in-Ok-ranges_of : goal.returns-in-Ok-ranges_of
returns-in-Ok-ranges_of c =
    let read = c.in-Ok.ensures in
    let made = c.in-Ok-ranges_of in
    let ns = bits_in c.args.networks.now in
    let put = c.put_list.new in
    listed (AreNetworkValues c.args.networks.now) IsRangeValue range_in (AreRanges 129 (Covers ns)) made.ranges.items c.args.out.now put.out c.args.count.now
    put.count c.put_list.result read.0 made.ensures.0
    (ranges_alike ns (map any_bits c.in-Ok.set) (map range_in made.ranges.items) read.1 made.ensures.1)
    (subst (λ (l : List CRange). IsListPut l c.args.out.now put.out put.count c.put_list.result) c.as_slice.ensures.value c.put_list.ensures)
