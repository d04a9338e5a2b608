use Rattle.netset_commands.proofs.Headed.{left_cause}
use Rattle.netset_commands.proofs.Looked.{ended_early, looked_whole, output_failed, told_text}
use Rattle.netset_commands.proofs.commands.look.look_left.Goals as goal

pub returns-in-Ok-clause-tells : goal.returns-in-Ok-clause-tells
returns-in-Ok-clause-tells g c =
    rw (c.in-Alone.is, c.verdict_of.ensures) (looked_whole c.args.place (g.T.LookUps.rows c.args.table.now) c.args.file c.args.reader.now.left
    (g.O.Sink.state c.args.out.now) (g.O.Sink.state c.look_all.new.out) c.in-Ok.found c.in-Ok.ensures.looks)

pub returns-in-Err-Reading-clause-tells : goal.returns-in-Err-Reading-clause-tells
returns-in-Err-Reading-clause-tells g c =
    rw (c.in-Alone.is, c.unread.ensures) (ended_early c.args.place (g.T.LookUps.rows c.args.table.now) c.args.file c.args.reader.now.left
    (g.O.Sink.state c.args.out.now) (g.O.Sink.state c.look_all.new.out) c.in-Err-Reading.e (rw c.in-Err-Reading.field-0-is at c.in-Err-Reading.ensures.looks))

pub returns-in-Err-Reading-clause-cause : goal.returns-in-Err-Reading-clause-cause
returns-in-Err-Reading-clause-cause g c =
    rw c.unread.ensures (left_cause c.args.file c.args.reader.now.left (g.M.Memory.refused c.look_all.new.memory) c.in-Err-Reading.e
    (rw c.in-Err-Reading.field-0-is at c.in-Err-Reading.ensures.cause))

pub returns-in-Err-Output-clause-tells : goal.returns-in-Err-Output-clause-tells
returns-in-Err-Output-clause-tells g c =
    rw c.in-Alone.is (output_failed c.args.place (g.T.LookUps.rows c.args.table.now) c.args.file c.args.reader.now.left
    (g.O.Sink.state c.args.out.now) (g.O.Sink.state c.look_all.new.out) (rw c.in-Err-Output.field-0-is at c.in-Err-Output.ensures.looks))

pub returns-in_default-clause-tells : goal.returns-in_default-clause-tells
returns-in_default-clause-tells g c =
    told_text c.args.telling c.args.place (g.T.LookUps.rows c.args.table.now) c.args.file.now c.args.reader.now.left
    (g.O.Sink.state c.args.out.now) (g.O.Sink.state c.tell_lines.new.out) c.in_default.not-Alone c.tell_lines.result c.tell_lines.ensures.tells
