use Rattle.netset_commands.specs.Rows.{kept}
use Rattle.netset_commands.proofs.Stored.{table_read}
use Rattle.netset_commands.proofs.input.table.read_table.Goals as goal

pub returns-clause-reads : goal.returns-clause-reads
returns-clause-reads g c =
    table_read c.args.form (g.F.Sources.contents c.args.sources.now c.args.file.now) c.args.file.now c.in_ok-rows.rows (kept c.of_rows.result) c.in_ok-rows.ensures.reads
    c.of_rows.ensures
