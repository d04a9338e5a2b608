-- What is written, and that it spells the network.
use Rattle.std.proofs.Common.{◌≤◌, length, sym, subst}
use Rattle.cidr.specs.bytes.Prefix.{SpellsPrefix}
use Rattle.cidr.specs.model.Network.{width_of}
use Rattle.cidr.proofs.PrefixSpelling.{written, spells_written}
use Rattle.cidr.proofs.prefix_bytes.NetworkPrefixBytes.to_prefix_bytes.Goals as goal

pub returns-clause-bytes : goal.returns-clause-bytes
returns-clause-bytes g c =
    let within : length c.args.self.now ≤ width_of g.A.AddressBits.FAMILY = rw c.network_length-len.ensures.value at c.network_length-len.ensures.fits in
    written g.A.AddressBits.FAMILY c.args.self.now _ _ _ c.new-bytes.result.items c.push.new.self.items c.push_octets.new.bytes.items within
    c.network_length-len.ensures.value c.first_address.ensures c.octets_for.ensures c.new-bytes.ensures c.push.ensures.items c.push_octets.ensures

pub returns-clause-spells : goal.returns-clause-spells
returns-clause-spells g c =
    let w = width_of g.A.AddressBits.FAMILY in
    let within : length c.args.self.now ≤ w = rw c.network_length-len.ensures.value at c.network_length-len.ensures.fits in
    subst (λ bytes. SpellsPrefix w bytes c.args.self.now) (sym (returns-clause-bytes g c)) (spells_written w c.args.self.now within)
