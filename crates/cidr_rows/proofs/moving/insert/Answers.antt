use Rattle.std.proofs.Common.{◌∙◌, ap}
use Rattle.std.proofs.Math.ListN.{set}
use Rattle.cidr_rows.proofs.Moves.{inserted}
use Rattle.cidr_rows.proofs.moving.insert.Goals as goal

pub returns : goal.returns
returns g c =
    ap (λ l. set l c.args.index c.args.row) c.copy_within.ensures.after
    ∙ inserted c.args.rows.now c.args.count c.args.index c.args.row c.requires.index c.requires.room
