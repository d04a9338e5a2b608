use Rattle.std.proofs.Common.{Ok, Err}
use Rattle.netset_commands.proofs.Matched.{stops_by}
use Rattle.netset_commands.proofs.output.printing.stop.Goals as goal

pub returns-in-Ok : goal.returns-in-Ok
returns-in-Ok g c =
    stops_by c.args.error (g.S.Sink.state c.args.out.now) (g.S.Sink.state c.flush.new.out) c.args.block.now (Ok c.in-Ok.field-0) c.in_default.not-Output
    c.in-Ok.ensures.writes

pub returns-in-Err : goal.returns-in-Err
returns-in-Err g c =
    stops_by c.args.error (g.S.Sink.state c.args.out.now) (g.S.Sink.state c.flush.new.out) c.args.block.now (Err c.in-Err.field-0) c.in_default.not-Output
    c.in-Err.ensures.writes
