use Rattle.netset_commands.proofs.Headed.{part_gone}
use Rattle.netset_commands.proofs.commands.kept.write_part.Goals as goal

pub returns : goal.returns
returns g c =
    part_gone (g.S.Sink.state c.args.out.now) (g.S.Sink.state c.push_line.new.out) (g.S.Sink.state c.flush.new.out) c.new-block.result c.push_line.new.self
    c.args.header.now c.args.has_more c.flush.result c.new-block.ensures (c.is_line.ensures.line c.if-not-is_line.false) c.in_ok-push_line.ensures c.flush.ensures.writes
