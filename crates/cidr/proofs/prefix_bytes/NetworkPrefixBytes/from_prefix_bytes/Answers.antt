-- The network that is read.
use Rattle.std.proofs.Common.{◌≤◌, get_or, sym, ap, ◌∙◌}
use Rattle.cidr.specs.bytes.Compact.{octet_count}
use Rattle.cidr.specs.model.Network.{width_of}
use Rattle.cidr.proofs.CompactOctets.{octet_width}
use Rattle.cidr.proofs.PrefixSpelling.{reads_front}
use Rattle.cidr.proofs.prefix_bytes.NetworkPrefixBytes.from_prefix_bytes.Goals as goal

pub returns : goal.returns
returns g c =
    let w = width_of g.A.AddressBits.FAMILY in
    let width = c.len.ensures ∙ ap width_of c.FAMILY.ensures in
    let within : get_or c.args.bytes.now 0 0 ≤ w = rw width at c.if-len.false in
    let family = g.A.AddressBits.FAMILY in
    reads_front w (octet_count family) c.args.bytes.now _ _ _ (sym (octet_width family)) c.in-len1-up.len_at_least within c.octets_for-count.ensures
    c.if-octets-count.false c.of_octets-address.ensures c.holding.ensures
