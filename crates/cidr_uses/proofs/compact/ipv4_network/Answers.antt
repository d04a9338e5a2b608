use Rattle.cidr_uses.proofs.Fronts.{reads_front}
use Rattle.cidr_uses.proofs.compact.ipv4_network.Goals as goal

pub returns : goal.returns
returns c = reads_front _ _ _ c.args.input.now c.args.network.now _ c.from_compact.ensures c.to_compact-bytes.ensures.alone.is_value c.requires.0 c.requires.1
