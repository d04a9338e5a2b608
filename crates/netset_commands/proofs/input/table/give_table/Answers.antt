use Rattle.std.proofs.Common.{sym}
use Rattle.netset_commands.specs.Rows.{searched}
use Rattle.netset_commands.proofs.Stored.{table_read}
use Rattle.netset_commands.proofs.input.table.give_table.Goals as goal

pub returns-in_ok-table-in-Lines-clause-gives : goal.returns-in_ok-table-in-Lines-clause-gives
returns-in_ok-table-in-Lines-clause-gives g c =
    table_read c.args.form (g.F.Sources.contents c.args.sources.now c.args.file.now) c.args.file.now c.in-Lines.rows (searched c.in_ok-table-in-Lines.table)
    (rw c.in-Lines.is at c.in_ok-rows.ensures.gives) (rw (sym c.in_ok-table-in-Lines.ensures.made) at c.of_rows-table.ensures)
