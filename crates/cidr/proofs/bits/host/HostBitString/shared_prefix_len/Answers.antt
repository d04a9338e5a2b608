-- What the networks of two hosts share is what their addresses share, up to both lengths.
use Rattle.std.proofs.Common.{◌∙◌, arith}
use Rattle.cidr.proofs.OrderLaws.{least_of_three}
use Rattle.cidr.proofs.SharedLength.{shared_of_first}
use Rattle.cidr.proofs.bits.host.HostBitString.shared_prefix_len.Goals as goal

pub returns : goal.returns
returns g c =
    let first = c.network_length in
    let second = c.network_length-2 in
    let p = c.args.self.now in
    let q = c.args.other.now in
    let s = c.shared_len.result in
    let least = c.from.ensures ∙ least_of_three first.result second.result p.len q.len s c.min.result c.min-shorter.result
    c.min.ensures c.min-shorter.ensures first.ensures.value second.ensures.value in
    let here = rw c.address.ensures.value at c.address.ensures.width in
    let there = rw c.address-2.ensures.value at c.address-2.ensures.width in
    rw least (shared_of_first p.len q.len s p.address q.address
    (omega (arith, here, first.ensures.value, first.ensures.fits)) (omega (arith, there, second.ensures.value, second.ensures.fits))
    (rw (c.address.ensures.value, c.address-2.ensures.value) at c.shared_len.ensures))
