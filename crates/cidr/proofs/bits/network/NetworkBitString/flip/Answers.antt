-- A bit of a network is inverted in its first address.
use Rattle.std.proofs.Common.{set, ap, ◌∙◌, arith}
use Rattle.cidr.specs.model.BitString.{inverted}
use Rattle.cidr.specs.model.Network.{width_of}
use Rattle.cidr.proofs.StringBits.{inverted_first, set_is_first, set_shown}
use Rattle.cidr.proofs.bits.network.NetworkBitString.flip.Goals as goal

pub new_unchecked-requires : goal.new_unchecked-requires
new_unchecked-requires g c =
    let w = width_of g.A.AddressBits.FAMILY in
    let len = c.network_length-len.ensures in
    let first = g.A.AddressBits.bits c.first_address.result in
    set_is_first w c.network_length-len.result (inverted c.place.result first) c.args.self.now first
    (g.A.AddressBits.bits c.with_flipped_bit-flipped.result) len.value c.first_address.ensures c.args.i c.place.result c.requires
    (omega (arith, len.value, len.fits)) c.place.ensures c.with_flipped_bit-flipped.ensures

pub returns : goal.returns
returns g c =
    let w = width_of g.A.AddressBits.FAMILY in
    let len = c.network_length-len.ensures in
    let first = g.A.AddressBits.bits c.first_address.result in
    rw c.new_unchecked.ensures (set_shown w c.network_length-len.result (inverted c.place.result first) c.args.self.now first
    (g.A.AddressBits.bits c.with_flipped_bit-flipped.result) len.value c.first_address.ensures c.args.i c.place.result c.requires
    (omega (arith, len.value, len.fits)) c.place.ensures c.with_flipped_bit-flipped.ensures
    ∙ ap (set c.args.self.now c.args.i) (inverted_first w c.args.i c.place.result c.args.self.now first c.requires c.place.ensures c.first_address.ensures))
