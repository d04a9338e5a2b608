use Rattle.std.proofs.Common.{refl, Some, None}
use Rattle.std.proofs.lemmas.Result.{err_from_is_err_and}
use Rattle.netset_commands.proofs.Kept.{line_kept, line_lost}
use Rattle.netset_commands.proofs.commands.kept.keep_line.Goals as goal

pub returns-in_err-push_kept-in-Some : goal.returns-in_err-push_kept-in-Some
returns-in_err-push_kept-in-Some g c =
    let (y, is, same) = err_from_is_err_and c.from_residual.result c.from_residual.ensures.1 in
    line_lost c.args.place (g.T.LookUps.rows c.args.table.now) c.args.line.now c.args.asked.now (Some (c.in-Some.found.0.bytes, c.in-Some.found.1.now))
    (g.S.Sink.state c.args.out.now) (g.S.Sink.state c.push_kept.new.out) c.args.block.now c.push_kept.new.block y _ c.from_residual.result is same
    (rw c.in-Some.is at c.network_asked.ensures) (rw c.joint_of.ensures at c.in_err-push_kept-in-Some.ensures)

pub returns-in_ok-push_kept-in-Some : goal.returns-in_ok-push_kept-in-Some
returns-in_ok-push_kept-in-Some g c =
    line_kept c.args.place (g.T.LookUps.rows c.args.table.now) c.args.line.now c.args.asked.now (Some (c.in-Some.found.0.bytes, c.in-Some.found.1.now))
    (g.S.Sink.state c.args.out.now) (g.S.Sink.state c.push_kept.new.out) c.args.block.now c.push_kept.new.block _
    (rw c.in-Some.is at c.network_asked.ensures) (rw c.joint_of.ensures at c.in_ok-push_kept-in-Some.ensures) refl

pub returns-in_err-push_line-in-None : goal.returns-in_err-push_line-in-None
returns-in_err-push_line-in-None g c =
    let (y, is, same) = err_from_is_err_and c.from_residual-in_err-push_line-in-None.result c.from_residual-in_err-push_line-in-None.ensures.1 in
    line_lost c.args.place (g.T.LookUps.rows c.args.table.now) c.args.line.now c.args.asked.now None
    (g.S.Sink.state c.args.out.now) (g.S.Sink.state c.push_line.new.out) c.args.block.now c.push_line.new.self y _ c.from_residual-in_err-push_line-in-None.result is same
    (rw c.in-None.is at c.network_asked.ensures) c.in_err-push_line-in-None.ensures

pub returns-in_ok-push_line-in-None : goal.returns-in_ok-push_line-in-None
returns-in_ok-push_line-in-None g c =
    line_kept c.args.place (g.T.LookUps.rows c.args.table.now) c.args.line.now c.args.asked.now None
    (g.S.Sink.state c.args.out.now) (g.S.Sink.state c.push_line.new.out) c.args.block.now c.push_line.new.self _
    (rw c.in-None.is at c.network_asked.ensures) c.in_ok-push_line-in-None.ensures refl
