use Rattle.std.proofs.Common.{◌∙◌, ap, subst, inl, ℕ, List}
use Rattle.netset_commands.specs.Command.{request_of}
use Rattle.netset_commands.specs.Leaving.{LeavesBy}
use Rattle.netset_commands.proofs.Arguments.{bytes_of}
use Rattle.netset_commands.proofs.Running.{run_none, run_once}
use Rattle.netset_commands.specs.Program.{RunsRequest, contents_in, contents_of, headed}
use Rattle.netset_commands.specs.declared.errors.CommandError.TheVariants as error
use Rattle.netset_commands.proofs.Left.{left_alone, not_zero}
use Rattle.netset_commands.proofs.program.answer_once.Goals as goal

pub returns-then-name_input_twice-clause-runs : goal.returns-then-name_input_twice-clause-runs
returns-then-name_input_twice-clause-runs g c = inl
    (run_none c.args.reading (g.F.Files.contents c.args.files.now)
    (record { memory = g.M.Memory.refused c.files.new.memory; folder = g.D.Folder.refused c.args.folder.now; files = g.F.Files.reasons c.args.files.now }) (request_of c.args.command)
    (g.O.Output.closed c.args.out.now)
    (g.O.Sink.state c.args.out.now) (g.E.Sink.state c.args.err.now) (g.E.Sink.state c.report-then-name_input_twice.new.err)
    c.report-then-name_input_twice.result c.name_input_twice.result (bytes_of c.in-Ok.names.items) c.read_twice.result c.in-Ok.ensures.names
    (rw c.as_slice.ensures.value at c.name_input_twice.ensures) c.if-name_input_twice.true c.read_twice.ensures
    c.report-then-name_input_twice.ensures.says c.report-then-name_input_twice.ensures.status)

pub returns-clause-runs : goal.returns-clause-runs
returns-clause-runs g c = inl
    (run_once c.args.reading (g.F.Files.contents c.args.files.now)
    (record { memory = g.M.Memory.refused c.answer_read.new.memory; folder = g.D.Folder.refused c.answer_read.new.folder; files = g.F.Files.reasons c.args.files.now }) (request_of c.args.command)
    (g.O.Output.closed c.answer_read.new.out)
    (g.O.Sink.state c.args.out.now) (g.O.Sink.state c.answer_read.new.out) (g.E.Sink.state c.args.err.now) (g.E.Sink.state c.answer_read.new.err)
    c.answer_read.result c.name_input_twice.result (bytes_of c.in-Ok.names.items) c.in-Ok.ensures.names
    (rw c.as_slice.ensures.value at c.name_input_twice.ensures) c.if-name_input_twice.false
    (subst (λ (k : List (List ℕ)). RunsRequest c.args.reading.at_fault (contents_in c.args.reading.list_form (headed k (g.F.Files.contents c.args.files.now)))
    (record { memory = g.M.Memory.refused c.answer_read.new.memory; folder = g.D.Folder.refused c.answer_read.new.folder; files = g.F.Files.reasons c.args.files.now }) (request_of c.args.command)
    (g.O.Output.closed c.answer_read.new.out)
    (g.O.Sink.state c.args.out.now) (g.O.Sink.state c.answer_read.new.out) (g.E.Sink.state c.args.err.now) (g.E.Sink.state c.answer_read.new.err)
    c.answer_read.result) (ap bytes_of c.as_slice-2.ensures.value ∙ c.in-Ok-tables.ensures.names) c.answer_read.ensures.runs))

pub returns-then-name_input_twice-clause-leaves : goal.returns-then-name_input_twice-clause-leaves
returns-then-name_input_twice-clause-leaves g c =
    left_alone (contents_of c.args.reading (request_of c.args.command) (g.F.Files.contents c.args.files.now)) (request_of c.args.command) (g.D.Folder.saved c.args.folder.now) _
    (not_zero c.read_twice.result _ c.report-then-name_input_twice.ensures.status)

pub returns-in_default-clause-leaves : goal.returns-in_default-clause-leaves
returns-in_default-clause-leaves g c =
    left_alone (contents_of c.args.reading (request_of c.args.command) (g.F.Files.contents c.args.files.now)) (request_of c.args.command) (g.D.Folder.saved c.args.folder.now) _
    (not_zero error.NoMemory _ c.report.ensures.status)

pub returns-clause-leaves : goal.returns-clause-leaves
returns-clause-leaves g c =
    subst (λ (k : List (List ℕ)). LeavesBy (contents_in c.args.reading.list_form (headed k (g.F.Files.contents c.args.files.now))) (request_of c.args.command)
    (g.D.Folder.saved c.args.folder.now) (g.D.Folder.saved c.answer_read.new.folder) c.answer_read.result)
    (ap bytes_of c.as_slice-2.ensures.value ∙ c.in-Ok-tables.ensures.names) c.answer_read.ensures.leaves
