use Rattle.std.proofs.Common.{sym}
use Rattle.netset_commands.proofs.Stored.{none_stored, rows_copied, rows_read}
use Rattle.netset_commands.proofs.input.table.rows_in_file.Goals as goal

pub returns-in_ok-rows-in-Some-Lines-Rows-clause-reads : goal.returns-in_ok-rows-in-Some-Lines-Rows-clause-reads
returns-in_ok-rows-in-Some-Lines-Rows-clause-reads g c =
    rows_copied c.args.form c.in-Some-Lines-Rows.said (g.F.Sources.contents c.args.sources.now c.args.file.now) c.args.file.now c.in-Some-Lines-Rows.kept
    c.in_ok-rows-in-Some-Lines-Rows.rows (rw (c.in-Some-Lines-Rows.field-0-is, c.in-Some-Lines-Rows.field-0-0-is) at c.in-Some-Lines-Rows.ensures) (c.is_same_form.ensures c.if-is_same_form.true)
    (rw (sym c.in_ok-rows-in-Some-Lines-Rows.ensures.made) at c.copy-rows.ensures)

pub returns-in_ok-read_file_lines-in_default-clause-reads : goal.returns-in_ok-read_file_lines-in_default-clause-reads
returns-in_ok-read_file_lines-in_default-clause-reads g c =
    rows_read c.args.form (g.F.Sources.contents c.args.sources.now c.args.file.now) c.args.file.now c.new-rows.result c.read_file_lines.new.said
    (none_stored c.new-rows.result c.new-rows.ensures.v4 c.new-rows.ensures.v6) c.in_ok-read_file_lines-in_default.ensures.reads
