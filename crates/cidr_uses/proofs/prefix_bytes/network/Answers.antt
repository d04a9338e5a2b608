use Rattle.cidr_uses.proofs.PrefixFronts.{reads_prefix_front}
use Rattle.cidr_uses.proofs.prefix_bytes.network.Goals as goal

pub returns : goal.returns
returns g c =
    reads_prefix_front g.C.BitString.bits g.met.C.NetworkBits.determined _ c.args.input.now _ c.args.network.now _ c.from_prefix_bytes.ensures c.to_prefix_bytes-bytes.ensures.bytes
    c.to_prefix_bytes-bytes.ensures.spells c.requires.0 c.requires.1
