-- A host that is clipped past its address stays.
use Rattle.std.proofs.Common.{arith}
use Rattle.cidr.specs.model.Network.{width_of}
use Rattle.cidr.proofs.StringBits.{host_unclipped}
use Rattle.cidr.proofs.bits.host.HostBitString.clip.Goals as goal

pub returns-else-k-from-clause-host : goal.returns-else-k-from-clause-host
returns-else-k-from-clause-host g c =
    let here = rw c.address-address.ensures.value at c.address-address.ensures.width in
    let len = c.network_length-len.ensures in
    host_unclipped (width_of g.A.AddressBits.FAMILY) c.args.k c.args.self.now (here, omega (arith, len.value, len.fits))
    (omega (arith, c.if-k-from.false, c.from.ensures, rw c.FAMILY.ensures at c.len-width.ensures))
