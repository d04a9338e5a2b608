use Rattle.netset_commands.specs.Command.{request_of}
use Rattle.netset_commands.specs.Program.{contents_in}
use Rattle.netset_commands.proofs.Left.{left_by}
use Rattle.netset_commands.proofs.program.answer_read.Goals as goal

pub returns-in-Stop-clause-runs : goal.returns-in-Stop-clause-runs
returns-in-Stop-clause-runs g c =
    rw c.in-Stop.is (c.answer-answered.result, c.answer-answered.ensures.answers, c.answer-answered.ensures.cause, rw c.is_closed.ensures at c.report.ensures.says, c.report.ensures.status)

pub returns-in-Tell-clause-runs : goal.returns-in-Tell-clause-runs
returns-in-Tell-clause-runs g c = rw c.in-Tell.is c.keep_going.ensures.goes

pub returns-in-Stop-clause-leaves : goal.returns-in-Stop-clause-leaves
returns-in-Stop-clause-leaves g c =
    left_by (contents_in c.args.reading.list_form (g.F.Files.contents c.args.files.now)) (request_of c.args.command) (g.D.Folder.saved c.args.folder.now)
    (g.D.Folder.saved c.answer-answered.new.folder) c.answer-answered.result _ c.answer-answered.ensures.leaves c.report.ensures.status

pub returns-in-Tell-clause-leaves : goal.returns-in-Tell-clause-leaves
returns-in-Tell-clause-leaves g c = c.keep_going.ensures.leaves
