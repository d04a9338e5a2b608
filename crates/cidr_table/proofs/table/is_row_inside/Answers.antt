use Rattle.cidr_table.proofs.Beginnings.{begins_from_decides}
use Rattle.cidr_table.proofs.table.is_row_inside.Goals as goal

pub returns : goal.returns
returns g c =
    begins_from_decides c.is_inside.result (g.C.BitString.bits c.args.row.now.0) (g.C.BitString.bits c.args.outer.now) c.is_inside.ensures
