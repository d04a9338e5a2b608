-- A bit of a host's network is inverted in its address.
use Rattle.std.proofs.Common.{◌≡◌, set, ap, ap₂, ◌∙◌}
use Rattle.cidr.specs.model.BitString.{inverted}
use Rattle.cidr.specs.model.Host.{host_of, network_of}
use Rattle.cidr.proofs.StringBits.{inverted_taken, take-set}
use Rattle.cidr.proofs.bits.host.HostBitString.flip.Goals as goal

pub returns-clause-bits : goal.returns-clause-bits
returns-clause-bits g c =
    let i = c.args.i in
    let old = c.args.self.now in
    let address : g.A.AddressBits.bits c.with_flipped_bit.result ≡ set old.address i (inverted i old.address) =
    rw (← c.address.ensures.value, ← c.place.ensures) c.with_flipped_bit.ensures in
    let whole = c.new_unchecked.ensures ∙ ap₂ host_of address c.network_length-len.ensures.value in
    ap network_of whole ∙ take-set old.len i (inverted i old.address) old.address c.requires
    ∙ ap (set (network_of old) i) (inverted_taken old.len i old.address c.requires)
