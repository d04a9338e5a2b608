use Rattle.netset_commands.proofs.Looked.{one_pushed}
use Rattle.netset_commands.proofs.commands.look.push_one.Goals as goal

pub returns-in-Some : goal.returns-in-Some
returns-in-Some g c =
    rw c.in-Some.is (one_pushed (g.T.LookUps.rows c.args.table.now) c.in-Some.address (g.S.Sink.state c.args.out.now) (g.S.Sink.state c.push.new.out) c.args.block.now c.push.new.block
    c.push.result c.push.ensures)
