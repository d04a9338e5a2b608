use Rattle.std.proofs.Common.{refl, sym}
use Rattle.std.proofs.lemmas.Result.{err_from_is_err_and}
use Rattle.netset_commands.proofs.LinesRead.{fits}
use Rattle.netset_commands.proofs.ListForms.{line_fails, line_says, long_line}
use Rattle.netset_commands.proofs.input.lists.add_list_line.Goals as goal

pub returns-then-is_too_long-clause-adds : goal.returns-then-is_too_long-clause-adds
returns-then-is_too_long-clause-adds g c = (refl, long_line c.args.list_form c.args.line.now (c.is_too_long.ensures.0 c.if-is_too_long.true))

pub returns-in_ok-watch-in-Ok-clause-adds : goal.returns-in_ok-watch-in-Ok-clause-adds
returns-in_ok-watch-in-Ok-clause-adds g c =
    let (said, are, grows) = (rw (sym c.in_ok-watch-in-Ok.ensures.made) at c.push_content-pushed.ensures) in
    (said, line_says c.args.list_form c.args.line.now c.in-Ok.content said (fits c.args.line.now c.is_too_long.result c.is_too_long.ensures c.if-is_too_long.false) c.in-Ok.ensures are, grows)

pub returns-in_err-watch-in-Ok-clause-adds : goal.returns-in_err-watch-in-Ok-clause-adds
returns-in_err-watch-in-Ok-clause-adds g c =
    let (y, is, same) = err_from_is_err_and c.from_residual.result c.from_residual.ensures.1 in
    rw (is, same) tt

pub returns-in-Err-clause-adds : goal.returns-in-Err-clause-adds
returns-in-Err-clause-adds g c =
    (refl, line_fails c.args.list_form c.args.line.now c.in-Err.e (fits c.args.line.now c.is_too_long.result c.is_too_long.ensures c.if-is_too_long.false) c.in-Err.ensures)
