-- The shared bits of two addresses by their numbers.
use Rattle.cidr.proofs.SharedLength.{shared_by_numbers}
use Rattle.cidr.proofs.internal_traits.single_bits.Ipv6AddrSingleBits.shared_len.Goals as goal

pub returns : goal.returns
returns c =
    let here = c.halves.ensures in
    let there = c.halves-2.ensures in
    let same = rw (here.value, there.value) at c.shared_len.ensures.shared in
    shared_by_numbers 128 c.shared_len.result c.args.self c.args.other here.width there.width c.shared_len.ensures.fits same
