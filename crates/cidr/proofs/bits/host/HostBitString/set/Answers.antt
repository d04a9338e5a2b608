-- A bit of a host's network is set in its address.
use Rattle.std.proofs.Common.{set, ap, ap₂, ◌∙◌}
use Rattle.cidr.specs.model.Host.{host_of, network_of}
use Rattle.cidr.proofs.StringBits.{take-set}
use Rattle.cidr.proofs.bits.host.HostBitString.set.Goals as goal

pub returns-clause-bits : goal.returns-clause-bits
returns-clause-bits g c =
    let address = c.with_bit.ensures ∙ ap₂ (λ a j. set a j c.args.b) c.address.ensures.value c.place.ensures in
    let whole = c.new_unchecked.ensures ∙ ap₂ host_of address c.network_length-len.ensures.value in
    ap network_of whole ∙ take-set c.args.self.now.len c.args.i c.args.b c.args.self.now.address c.requires
