use Rattle.std.proofs.Common.{sym, ◌∙◌, ap}
use Rattle.std.proofs.lemmas.Result.{err_from_is_err_and}
use Rattle.netset_commands.proofs.Looked.{failing, all_unwritten, part_unwritten}
use Rattle.netset_commands.proofs.commands.look.look_all.Goals as goal

pub returns-in_err-flush-in-Ok-clause-looks : goal.returns-in_err-flush-in-Ok-clause-looks
returns-in_err-flush-in-Ok-clause-looks g c =
    let (y, is, same) = err_from_is_err_and c.from_residual.result c.from_residual.ensures.1 in
    all_unwritten c.args.place (g.T.LookUps.rows c.args.table.now) c.args.reader.now.left (g.S.Sink.state c.args.out.now) (g.S.Sink.state c.look_lines.new.out)
    (g.S.Sink.state c.flush.new.out) c.new-block.result c.look_lines.new.block c.in-Ok.found _ c.from_residual.result (is ∙ ap failing same)
    (sym c.if-failed.ensures) c.new-block.ensures c.in-Ok.ensures.looks c.in_err-flush-in-Ok.ensures.writes

pub returns-in_err-flush-in-Err-Reading-clause-looks : goal.returns-in_err-flush-in-Err-Reading-clause-looks
returns-in_err-flush-in-Err-Reading-clause-looks g c =
    let (y, is, same) = err_from_is_err_and c.from_residual-in_err-flush-in-Err-Reading.result c.from_residual-in_err-flush-in-Err-Reading.ensures.1 in
    part_unwritten c.args.place (g.T.LookUps.rows c.args.table.now) c.args.reader.now.left (g.S.Sink.state c.args.out.now) (g.S.Sink.state c.look_lines.new.out)
    (g.S.Sink.state c.flush-in-Err-Reading.new.out) c.new-block.result c.look_lines.new.block c.in-Err-Reading.e _
    c.from_residual-in_err-flush-in-Err-Reading.result (is ∙ ap failing same)
    (sym c.if-failed.ensures) c.new-block.ensures (rw c.in-Err-Reading.field-0-is at c.in-Err-Reading.ensures.looks) c.in_err-flush-in-Err-Reading.ensures.writes
