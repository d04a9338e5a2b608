-- One more bit of a network is set in its first address.
use Rattle.std.proofs.Common.{arith}
use Rattle.cidr.specs.model.Network.{width_of}
use Rattle.cidr.proofs.StringBits.{append_is_first, append_shown}
use Rattle.cidr.proofs.bits.network.NetworkBitString.append.Goals as goal

pub new_unchecked-requires : goal.new_unchecked-requires
new_unchecked-requires g c =
    append_is_first (width_of g.A.AddressBits.FAMILY) c.network_length-len.result c.args.b c.args.self.now
    (g.A.AddressBits.bits c.first_address.result) (g.A.AddressBits.bits c.with_bit.result) c.network_length-len.ensures.value
    c.first_address.ensures (omega (arith, c.requires)) c.with_bit.ensures

pub returns-clause-bits : goal.returns-clause-bits
returns-clause-bits g c =
    rw c.new_unchecked.ensures (append_shown (width_of g.A.AddressBits.FAMILY) c.network_length-len.result c.args.b c.args.self.now
    (g.A.AddressBits.bits c.first_address.result) (g.A.AddressBits.bits c.with_bit.result) c.network_length-len.ensures.value
    c.first_address.ensures (omega (arith, c.requires)) c.with_bit.ensures)
