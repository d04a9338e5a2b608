use Rattle.std.proofs.Common.{sym}
use Rattle.std.proofs.lemmas.Result.{err_from_is_err_and}
use Rattle.netset_commands.proofs.Blocks.{line_lost, line_written}
use Rattle.netset_commands.proofs.commands.smallest.write_fewest.Goals as goal

pub returns-in_err-push_fewest : goal.returns-in_err-push_fewest
returns-in_err-push_fewest g c =
    let (y, is, same) = err_from_is_err_and c.from_residual.result c.from_residual.ensures.1 in
    line_lost (g.S.Sink.state c.args.out.now) (g.S.Sink.state c.push_fewest.new.out) c.new-block.result _ c.from_residual.result y is (sym c.if-failed.ensures)
    c.new-block.ensures c.in_err-push_fewest.ensures

pub returns : goal.returns
returns g c =
    line_written (g.S.Sink.state c.args.out.now) (g.S.Sink.state c.push_fewest.new.out) (g.S.Sink.state c.flush.new.out) c.new-block.result c.push_fewest.new.block _
    c.flush.result (sym c.if-failed.ensures) c.new-block.ensures c.in_ok-push_fewest.ensures c.flush.ensures.writes
