use Rattle.std.proofs.Common.{refl}
use Rattle.std.proofs.lemmas.Result.{err_from_is_err_and}
use Rattle.cidr_tool.proofs.walks.write_walk.Goals as goal

pub returns-in_err-write_text : goal.returns-in_err-write_text
returns-in_err-write_text g c =
    let p = err_from_is_err_and c.from_residual.result c.from_residual.ensures.1 in
    let written = rw (c.as_str.ensures.value, c.lines_of-lines.ensures, c.drive.ensures.answers, c.addresses-walk.ensures, c.iter.ensures.walk) at c.in_err-write_text.ensures in
    rw (p.1, p.2) (refl, written.0, written.1)

pub returns : goal.returns
returns g c = rw (c.as_str.ensures.value, c.lines_of-lines.ensures, c.drive.ensures.answers, c.addresses-walk.ensures, c.iter.ensures.walk) at c.in_ok-write_text.ensures
