use Rattle.netset_commands.proofs.Stored.{rows_longer}
use Rattle.netset_commands.proofs.input.rows.RowFormLineKind.add_line.Goals as goal

pub returns-clause-adds : goal.returns-clause-adds
returns-clause-adds g c =
    rows_longer c.args.self.now c.args.list_form c.args.line.now c.args.number c.args.said.now c.add_row_line.new.rows c.add_row_line.result c.add_row_line.ensures.adds
