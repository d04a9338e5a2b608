use Rattle.netset_commands.proofs.Kept.{as_object}
use Rattle.netset_commands.proofs.commands.kept.tell_line.Goals as goal

pub returns-in-Objects-clause-tells : goal.returns-in-Objects-clause-tells
returns-in-Objects-clause-tells g c =
    rw c.in-Objects.is (as_object c.args.place (g.T.LookUps.rows c.args.table.now) c.args.line.now c.args.asked.now (g.S.Sink.state c.args.out.now) (g.S.Sink.state c.tell_object.new.out)
    c.args.block.now c.tell_object.new.block c.tell_object.result c.tell_object.ensures.tells)
