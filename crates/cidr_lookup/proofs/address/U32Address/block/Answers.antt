use Rattle.std.proofs.Common.{sym, arith}
use Rattle.cidr_lookup.proofs.Blocks.{scaled}
use Rattle.cidr_lookup.proofs.address.U32Address.block.Goals as goal

pub returns : goal.returns
returns c = sym (scaled c.args.self 4 c.args.shift (omega (arith, c.requires.few)))
