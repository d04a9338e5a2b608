-- The room that is left where the first bits are.
use Rattle.cidr.specs.model.Network.{width_of}
use Rattle.cidr.proofs.StringBits.{room_clipped}
use Rattle.cidr.proofs.bits.any.clip_behind_family.Goals as goal

pub returns-clause-room : goal.returns-clause-room
returns-clause-room g c =
    let len = c.network_length.ensures in
    room_clipped (width_of g.A.AddressBits.FAMILY) c.args.k c.args.network.now _ (rw len.value at len.fits) c.requires c.clip.ensures.bits
