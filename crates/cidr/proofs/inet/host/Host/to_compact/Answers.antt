-- The bytes of a host stand alone.
use Rattle.std.proofs.Common.{◌∙◌, sym, ap}
use Rattle.std.specs.Prelude.{length}
use Rattle.cidr.specs.bytes.Compact.{host_bytes}
use Rattle.cidr.specs.bytes.CompactRefusal.{Only, IsHostBytesRefused}
use Rattle.cidr.specs.model.Host.{IsHost}
use Rattle.cidr.specs.model.Network.{width_of}
use Rattle.cidr.proofs.CompactBytes.{stands_alone, host_code}
use Rattle.cidr.proofs.inet.host.Host.to_compact.Goals as goal

pub returns-clause-alone : goal.returns-clause-alone
returns-clause-alone g c =
    let f = g.A.AddressBits.FAMILY in
    let width = ap length (sym c.address.ensures.value) ∙ c.address.ensures.width in
    let fits = rw c.network_length.ensures.value at c.network_length.ensures.fits in
    stands_alone (IsHost (width_of f)) (host_bytes f) (IsHostBytesRefused (Only f)) (host_code f) c.args.self.now (width, fits)
