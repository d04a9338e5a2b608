-- The parts on strings, bytes and networks.
use Rattle.cidr_uses.proofs.Headlines.{parses_exactly, rejects, parses_back, unpacks, holds_each}
use Rattle.cidr_uses.proofs.headline.of_type.Goals as goal

pub returns : goal.returns
returns g c =
    let n = g.N.NetworkType in
    let text = c.args.s.now in
    let a = c.args.a.now in
    let exactly = parses_exactly n.represents n.is_rejected text c.parse_network.result c.parse_network.ensures c.laws.ensures.one in
    let short = c.print.ensures in
    let long = c.print_with_length.ensures in
    record {
      parses = exactly;
      rejects = rejects n.represents n.is_rejected text c.parse_network.result c.parse_network.ensures;
      all = c.agrees.ensures.all;
      none = c.agrees.ensures.none;
      printed = (short.text, long.text, c.pack.ensures);
      texts_back = (
        parses_back n.represents text _ _ c.parse_network.result a exactly short.text short.represents,
        parses_back n.represents text _ _ c.parse_network.result a exactly long.text long.represents,
      );
      bytes_back = unpacks n.is_network n.bytes c.args.input.now c.unpack.result c.unpack.ensures a c.laws.ensures.network;
      contains = c.contains_address.ensures;
      holds = holds_each n.is_address _ _ c.contains_network.result c.contains_network.ensures.holds;
      begins = c.contains_network.ensures.begins;
      order = c.compare.ensures;
    }
