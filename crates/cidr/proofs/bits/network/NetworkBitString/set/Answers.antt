-- A bit of a network is set in its first address.
use Rattle.std.proofs.Common.{arith}
use Rattle.cidr.specs.model.Network.{width_of}
use Rattle.cidr.proofs.StringBits.{set_is_first, set_shown}
use Rattle.cidr.proofs.bits.network.NetworkBitString.set.Goals as goal

pub place-requires : goal.place-requires
place-requires g c = omega (arith, c.requires, c.network_length-len.ensures.value)

pub with_bit-requires : goal.with_bit-requires
with_bit-requires g c = omega (arith, c.requires, c.place.ensures, c.network_length-len.ensures.value, c.network_length-len.ensures.fits)

pub new_unchecked-requires : goal.new_unchecked-requires
new_unchecked-requires g c =
    let w = width_of g.A.AddressBits.FAMILY in
    let len = c.network_length-len.ensures in
    set_is_first w c.network_length-len.result c.args.b c.args.self.now (g.A.AddressBits.bits c.first_address.result)
    (g.A.AddressBits.bits c.with_bit.result) len.value c.first_address.ensures c.args.i c.place.result c.requires
    (omega (arith, len.value, len.fits)) c.place.ensures c.with_bit.ensures

pub returns : goal.returns
returns g c =
    let w = width_of g.A.AddressBits.FAMILY in
    let len = c.network_length-len.ensures in
    rw c.new_unchecked.ensures (set_shown w c.network_length-len.result c.args.b c.args.self.now (g.A.AddressBits.bits c.first_address.result)
    (g.A.AddressBits.bits c.with_bit.result) len.value c.first_address.ensures c.args.i c.place.result c.requires
    (omega (arith, len.value, len.fits)) c.place.ensures c.with_bit.ensures)
