use Rattle.std.proofs.Common.{sym}
use Rattle.std.proofs.lemmas.Result.{err_from_is_err_and}
use Rattle.netset_commands.proofs.Stored.{bytes_copied, none_stored, rows_copied, rows_read}
use Rattle.netset_commands.proofs.input.table.give_rows.Goals as goal

pub returns-in-Some-Lines-Rows-clause-gives : goal.returns-in-Some-Lines-Rows-clause-gives
returns-in-Some-Lines-Rows-clause-gives g c =
    rows_copied c.args.form c.in-Some-Lines-Rows.said (g.F.Sources.contents c.args.sources.now c.args.file.now) c.args.file.now c.in-Some-Lines-Rows.kept
    c.in_ok-rows-in-Some-Lines-Rows.rows (rw (c.in-Some-Lines-Rows.field-0-is, c.in-Some-Lines-Rows.field-0-0-is) at c.in-Some-Lines-Rows.ensures) (c.is_same_form.ensures c.if-is_same_form.true)
    (rw (sym c.in_ok-rows-in-Some-Lines-Rows.ensures.made) at c.copy-rows.ensures)

pub returns-in_err-rows-in-Some-Lines-Rows-clause-cause : goal.returns-in_err-rows-in-Some-Lines-Rows-clause-cause
returns-in_err-rows-in-Some-Lines-Rows-clause-cause g c =
    let (y, is, same) = err_from_is_err_and c.from_residual.result c.from_residual.ensures.1 in
    rw (is, same) c.in_err-rows-in-Some-Lines-Rows.ensures.refused

pub returns-in-Some-Stored-clause-gives : goal.returns-in-Some-Stored-clause-gives
returns-in-Some-Stored-clause-gives g c =
    bytes_copied (g.F.Sources.contents c.args.sources.now c.args.file.now) c.in-Some-Stored.kept.items c.in_ok-bytes-in-Some-Stored.bytes.items
    (rw c.in-Some-Stored.field-0-is at c.in-Some-Stored.ensures) (rw (sym c.in_ok-bytes-in-Some-Stored.ensures.made) at c.clone-bytes.ensures).cases.0

pub returns-in_err-bytes-in-Some-Stored-clause-cause : goal.returns-in_err-bytes-in-Some-Stored-clause-cause
returns-in_err-bytes-in-Some-Stored-clause-cause g c =
    let (y, is, same) = err_from_is_err_and c.from_residual-in_err-bytes-in-Some-Stored.result c.from_residual-in_err-bytes-in-Some-Stored.ensures.1 in
    rw (is, same) c.in_err-bytes-in-Some-Stored.ensures.refused

pub returns-in-Lines-clause-gives : goal.returns-in-Lines-clause-gives
returns-in-Lines-clause-gives g c =
    rows_read c.args.form (g.F.Sources.contents c.args.sources.now c.args.file.now) c.args.file.now c.new-read.result c.read_given.new.said
    (none_stored c.new-read.result c.new-read.ensures.v4 c.new-read.ensures.v6) (rw c.in-Lines.is at c.in_ok-given-in_default.ensures.gives)
