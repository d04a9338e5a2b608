use Rattle.std.proofs.Common.{refl}
use Rattle.std.proofs.lemmas.Result.{err_from_is_err_and}
use Rattle.cidr_lists.proofs.WholeTexts.{long_in_error, short_in_error, short_line, short_says}
use Rattle.cidr_lists.proofs.texts.add_list_line.Goals as goal

pub returns-then-is_too_long : goal.returns-then-is_too_long
returns-then-is_too_long c = (refl, long_in_error c.args.host_bits c.args.line.now (c.is_too_long.ensures.0 c.if-is_too_long.true))

pub returns-in_ok-push_content-in-Ok : goal.returns-in_ok-push_content-in-Ok
returns-in_ok-push_content-in-Ok c =
    let (field, trimmed, is) = c.in-Ok.ensures in
    let (said, are, grows) = c.in_ok-push_content-in-Ok.ensures in
    (said, short_says c.args.host_bits c.args.line.now field c.in-Ok.content said (short_line c.is_too_long.result c.args.line.now c.is_too_long.ensures c.if-is_too_long.false) trimmed is are, grows)

pub returns-in_err-push_content-in-Ok : goal.returns-in_err-push_content-in-Ok
returns-in_err-push_content-in-Ok c =
    let (y, is, same) = err_from_is_err_and c.from_residual.result c.from_residual.ensures.1 in
    rw (is, same) tt

pub returns-in-Err : goal.returns-in-Err
returns-in-Err c = (refl, short_in_error c.args.host_bits c.args.line.now c.in-Err.e (short_line c.is_too_long.result c.args.line.now c.is_too_long.ensures c.if-is_too_long.false) c.in-Err.ensures)
