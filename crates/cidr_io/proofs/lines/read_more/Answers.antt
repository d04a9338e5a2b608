use Rattle.std.proofs.Common.{arith}
use Rattle.cidr_io.proofs.Feeds.{front_kept}
use Rattle.cidr_io.proofs.lines.read_more.Goals as goal

pub returns-clause-front : goal.returns-clause-front
returns-clause-front g c =
    front_kept c.args.block.now.len c.args.block.now.items _ _ _ (omega (arith, c.args.block.now.ok.0)) c.in_ok-reserve.ensures.items c.in-Ok.ensures.items
