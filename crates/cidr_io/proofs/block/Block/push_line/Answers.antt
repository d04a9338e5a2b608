use Rattle.std.proofs.Common.{[]}
use Rattle.cidr_io.proofs.Collected.{collected_more}
use Rattle.cidr_io.proofs.block.Block.push_line.Goals as goal

pub returns : goal.returns
returns g c =
    collected_more (g.S.Sink.state c.args.out.now) (g.S.Sink.state c.make_room.new.out) (g.S.Sink.state c.push_parts.new.out)
    c.args.self.now c.make_room.new.self c.push_parts.new.self [] _ c.push_parts.result c.in_ok-make_room.ensures c.push_parts.ensures
