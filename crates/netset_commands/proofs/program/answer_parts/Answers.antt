use Rattle.std.proofs.Common.{arith}
use Rattle.netset_commands.specs.Command.{misuse_line}
use Rattle.netset_commands.proofs.Running.{run_found, run_misused}
use Rattle.netset_commands.proofs.Left.{left_found, none_left}
use Rattle.netset_commands.proofs.program.answer_parts.Goals as goal

pub returns-in-Ok-clause-runs : goal.returns-in-Ok-clause-runs
returns-in-Ok-clause-runs g c =
    run_found _ _ (g.F.Files.contents c.args.files.now)
    (record { memory = g.M.Memory.refused c.answer_to.new.memory; folder = g.D.Folder.refused c.answer_to.new.folder; files = g.F.Files.reasons c.args.files.now }) (g.O.Output.closed c.answer_to.new.out)
    (g.O.Sink.state c.args.out.now) (g.O.Sink.state c.answer_to.new.out) (g.E.Sink.state c.args.err.now) (g.E.Sink.state c.answer_to.new.err) c.answer_to.result
    c.in-Ok.ensures c.answer_to.ensures.runs

pub returns-in-Err-clause-runs : goal.returns-in-Err-clause-runs
returns-in-Err-clause-runs g c =
    run_misused _ (misuse_line c.in-Err.misuse) (g.F.Files.contents c.args.files.now)
    (record { memory = g.M.Memory.refused c.args.memory.now; folder = g.D.Folder.refused c.args.folder.now; files = g.F.Files.reasons c.args.files.now }) (g.O.Output.closed c.args.out.now)
    (g.O.Sink.state c.args.out.now) (g.E.Sink.state c.args.err.now) (g.E.Sink.state c.report_misuse.new.err) c.report_misuse.result
    c.in-Err.ensures c.report_misuse.ensures.says c.report_misuse.ensures.status

pub returns-in-Ok-clause-leaves : goal.returns-in-Ok-clause-leaves
returns-in-Ok-clause-leaves g c =
    left_found _ _ (g.F.Files.contents c.args.files.now) (g.D.Folder.saved c.args.folder.now) (g.D.Folder.saved c.answer_to.new.folder) c.answer_to.result
    c.in-Ok.ensures c.answer_to.ensures.leaves

pub returns-in-Err-clause-leaves : goal.returns-in-Err-clause-leaves
returns-in-Err-clause-leaves g c =
    none_left _ (g.F.Files.contents c.args.files.now) (g.D.Folder.saved c.args.folder.now) _ (omega (arith, c.report_misuse.ensures.status))
