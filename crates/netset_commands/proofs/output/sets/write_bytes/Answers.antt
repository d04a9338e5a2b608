use Rattle.std.proofs.Common.{sym}
use Rattle.netset_commands.proofs.Blocks.{text_written}
use Rattle.netset_commands.proofs.output.sets.write_bytes.Goals as goal

pub returns : goal.returns
returns g c =
    text_written (g.S.Sink.state c.args.out.now) (g.S.Sink.state c.write_all.new.out) (g.S.Sink.state c.flush.new.out) c.args.bytes.now c.flush.result
    (sym c.if-failed.ensures) c.in_ok-write_all.ensures c.flush.ensures
