use Rattle.netset_commands.proofs.Kept.{network_printed, no_network}
use Rattle.netset_commands.proofs.commands.kept.network_found.Goals as goal

pub returns-in-Some : goal.returns-in-Some
returns-in-Some g c =
    network_printed (g.T.LookUps.rows c.args.table.now) c.args.address.now c.in-Some.len c.in-Some.value.now c.block_text.result.bytes c.in-Some.ensures c.block_text.ensures.bytes

pub returns-in-None : goal.returns-in-None
returns-in-None g c = no_network (g.T.LookUps.rows c.args.table.now) c.args.address.now c.in-None.ensures
