-- What two networks share is what their first addresses share, up to both lengths.
use Rattle.std.proofs.Common.{length}
use Rattle.cidr.specs.model.Network.{width_of}
use Rattle.cidr.proofs.OrderLaws.{least_of_three}
use Rattle.cidr.proofs.SharedLength.{networks_share}
use Rattle.cidr.proofs.bits.network.shared_length.Goals as goal

pub returns : goal.returns
returns g c =
    let first = c.network_length in
    let second = c.network_length-2 in
    let p = c.args.one.now in
    let q = c.args.other.now in
    let s = c.shared_len.result in
    networks_share (width_of g.A.AddressBits.FAMILY) c.min.result s p q (g.A.AddressBits.bits c.first_address.result)
    (g.A.AddressBits.bits c.first_address-2.result) c.first_address.ensures c.first_address-2.ensures c.shared_len.ensures
    (least_of_three first.result second.result (length p) (length q) s c.min.result c.min-shorter.result
    c.min.ensures c.min-shorter.ensures first.ensures.value second.ensures.value)
