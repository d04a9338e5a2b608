use Rattle.netset_commands.proofs.Kept.{address_asked}
use Rattle.netset_commands.proofs.commands.kept.network_asked.Goals as goal

pub returns-in-Some : goal.returns-in-Some
returns-in-Some g c = rw c.in-Some.is (address_asked (g.T.LookUps.rows c.args.table.now) c.in-Some.address _ c.network_found.ensures)
