use Rattle.netset_commands.proofs.Kept.{object_made}
use Rattle.netset_commands.proofs.commands.kept.object_of.Goals as goal

pub returns : goal.returns
returns g c =
    object_made (g.T.LookUps.rows c.args.table.now) c.args.address.now _ _ _ _ c.row-row.ensures c.new-text.ensures.items c.in_ok-push_object.ensures c.is_some.ensures
