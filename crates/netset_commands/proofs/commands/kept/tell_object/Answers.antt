use Rattle.netset_commands.proofs.Kept.{nothing_to_tell}
use Rattle.netset_commands.proofs.commands.kept.tell_object.Goals as goal

pub returns-in-Some-clause-tells : goal.returns-in-Some-clause-tells
returns-in-Some-clause-tells g c = rw c.in-Some.is c.tell_address.ensures.tells

pub returns-in-None-clause-tells : goal.returns-in-None-clause-tells
returns-in-None-clause-tells g c =
    nothing_to_tell (g.T.LookUps.rows c.args.table.now) c.args.asked.now (g.S.Sink.state c.args.out.now) c.args.block.now c.in-None.is
