-- The bytes of a network stand alone.
use Rattle.cidr.specs.bytes.Compact.{network_bytes}
use Rattle.cidr.specs.bytes.CompactRefusal.{Only, IsNetworkBytesRefused}
use Rattle.cidr.specs.model.Network.{width_of, FitsWidth}
use Rattle.cidr.proofs.CompactBytes.{stands_alone, network_code}
use Rattle.cidr.proofs.cidr.network.Network.to_compact.Goals as goal

pub returns-clause-alone : goal.returns-clause-alone
returns-clause-alone g c =
    let f = g.A.AddressBits.FAMILY in
    stands_alone (FitsWidth (width_of f)) (network_bytes f) (IsNetworkBytesRefused (Only f)) (network_code f) c.args.self.now (rw c.network_length.ensures.value at c.network_length.ensures.fits)
