use Rattle.std.proofs.Common.{arith, inl, inr, refl}
use Rattle.netset_commands.specs.Command.{request_of}
use Rattle.netset_commands.specs.declared.errors.CommandError.TheVariants as error
use Rattle.netset_commands.proofs.Arguments.{bytes_of}
use Rattle.netset_commands.proofs.Running.{argument_first, lines_in_error, lines_skipped, no_line_in_error, not_loaded}
use Rattle.netset_commands.proofs.Left.{left_alone, left_by, not_zero}
use Rattle.netset_commands.proofs.program.keep_going.Goals as goal

pub returns-in_default-lists-clause-goes : goal.returns-in_default-lists-clause-goes
returns-in_default-lists-clause-goes g c =
    inr (inr (c.in_default-lists.ensures.refused, (refl, c.report-in_default-lists.ensures.says, c.report-in_default-lists.ensures.status)))

pub returns-in-Ok-default-true-clause-goes : goal.returns-in-Ok-default-true-clause-goes
returns-in-Ok-default-true-clause-goes g c = inr (inl (
  c.in_default.ensures,
  lines_in_error (g.F.Sources.contents c.args.sources.now) (request_of c.args.command) c.kind.result c.takes_file.result (bytes_of c.read_lists-names.result.now) c.args.skips
      (record { memory = g.M.Memory.refused c.load.new.memory; folder = g.D.Folder.refused c.args.folder.now; files = g.F.Sources.reasons c.args.sources.now }) (g.O.Output.closed c.args.out.now)
      (g.O.Sink.state c.args.out.now) (g.E.Sink.state c.args.err.now) (g.E.Sink.state c.load.new.err) c.kind.ensures c.takes_file.ensures (c.read_lists-names.ensures (rw c.as_slice.ensures.value c.in-Ok.ensures.names)) c.in-Ok-default-true.lists.items
      c.if-skips.false (rw (c.in-Ok-default-true.field-0-1-test) at c.in-Ok-default-true.ensures.loads),
))

pub returns-then-skips-clause-goes : goal.returns-then-skips-clause-goes
returns-then-skips-clause-goes g c = inr (inl (
  c.in_default.ensures,
  lines_skipped (g.F.Sources.contents c.args.sources.now) (request_of c.args.command) c.kind.result c.takes_file.result (bytes_of c.read_lists-names.result.now) c.args.skips
      (record { memory = g.M.Memory.refused c.answer_good.new.memory; folder = g.D.Folder.refused c.args.folder.now; files = g.F.Sources.reasons c.args.sources.now }) (g.O.Output.closed c.answer_good.new.out)
      (g.O.Sink.state c.args.out.now) (g.E.Sink.state c.args.err.now) (g.E.Sink.state c.load.new.err) c.kind.ensures c.takes_file.ensures (c.read_lists-names.ensures (rw c.as_slice.ensures.value c.in-Ok.ensures.names)) c.in-Ok-default-true.lists.items
      (g.O.Sink.state c.answer_good.new.out) (g.E.Sink.state c.answer_good.new.err) c.answer_good.result
      c.if-skips.true (rw (c.in-Ok-default-true.field-0-1-test) at c.in-Ok-default-true.ensures.loads) (rw c.as_slice-then-skips.ensures.value at c.answer_good.ensures.runs (g.D.Folder.refused c.args.folder.now)),
))

pub returns-in-Ok-default-false-clause-goes : goal.returns-in-Ok-default-false-clause-goes
returns-in-Ok-default-false-clause-goes g c = inr (inl (
  c.in_default.ensures,
  no_line_in_error (g.F.Sources.contents c.args.sources.now) (request_of c.args.command) c.kind.result c.takes_file.result (bytes_of c.read_lists-names.result.now) c.args.skips
      (record { memory = g.M.Memory.refused c.answer-answered.new.memory; folder = g.D.Folder.refused c.answer-answered.new.folder; files = g.F.Sources.reasons c.args.sources.now }) (g.O.Output.closed c.answer-answered.new.out)
      (g.O.Sink.state c.args.out.now) (g.E.Sink.state c.args.err.now) (g.E.Sink.state c.load.new.err) c.kind.ensures c.takes_file.ensures (c.read_lists-names.ensures (rw c.as_slice.ensures.value c.in-Ok.ensures.names)) c.in-Ok-default-false.lists.items
      (g.O.Sink.state c.answer-answered.new.out) (g.E.Sink.state c.report-in-Ok-default-false.new.err) c.answer-answered.result c.report-in-Ok-default-false.result
      (rw (c.in-Ok-default-false.field-0-1-test) at c.in-Ok-default-false.ensures.loads)
      (rw c.new-loaded.ensures at c.answer-answered.ensures.answers)
      (rw c.new-loaded.ensures at c.answer-answered.ensures.cause) (rw c.is_closed-in-Ok-default-false.ensures at c.report-in-Ok-default-false.ensures.says) c.report-in-Ok-default-false.ensures.status,
))

pub returns-clause-goes : goal.returns-clause-goes
returns-clause-goes g c = inr (inl (
  c.in_default.ensures,
  not_loaded (g.F.Sources.contents c.args.sources.now) (request_of c.args.command) c.kind.result c.takes_file.result (bytes_of c.read_lists-names.result.now) c.args.skips
      (record { memory = g.M.Memory.refused c.load.new.memory; folder = g.D.Folder.refused c.args.folder.now; files = g.F.Sources.reasons c.args.sources.now }) (g.O.Output.closed c.args.out.now)
      (g.O.Sink.state c.args.out.now) (g.E.Sink.state c.args.err.now) (g.E.Sink.state c.load.new.err) c.kind.ensures c.takes_file.ensures (c.read_lists-names.ensures (rw c.as_slice.ensures.value c.in-Ok.ensures.names)) (g.E.Sink.state c.report-in-Err.new.err) c.in-Err.e
      c.report-in-Err.result c.in-Err.ensures.loads c.in-Err.ensures.cause (rw c.is_closed-in-Err.ensures at c.report-in-Err.ensures.says) c.report-in-Err.ensures.status,
))

pub returns-in-Some-clause-goes : goal.returns-in-Some-clause-goes
returns-in-Some-clause-goes g c =
    argument_first c.args.skips (g.F.Sources.contents c.args.sources.now) (request_of c.args.command)
    (record { memory = g.M.Memory.refused c.args.memory.now; folder = g.D.Folder.refused c.args.folder.now; files = g.F.Sources.reasons c.args.sources.now }) (g.O.Output.closed c.args.out.now)
    (g.O.Sink.state c.args.out.now) (g.E.Sink.state c.args.err.now) (g.E.Sink.state c.report.new.err) c.in-Some.e c.report.result c.in-Some.ensures
    (rw c.is_closed.ensures at c.report.ensures.says) c.report.ensures.status

pub returns-in_default-lists-clause-leaves : goal.returns-in_default-lists-clause-leaves
returns-in_default-lists-clause-leaves g c =
    left_alone (g.F.Sources.contents c.args.sources.now) (request_of c.args.command) (g.D.Folder.saved c.args.folder.now) _
    (not_zero error.NoMemory _ c.report-in_default-lists.ensures.status)

pub returns-in-Some-clause-leaves : goal.returns-in-Some-clause-leaves
returns-in-Some-clause-leaves g c =
    left_alone (g.F.Sources.contents c.args.sources.now) (request_of c.args.command) (g.D.Folder.saved c.args.folder.now) _
    (not_zero c.in-Some.e _ c.report.ensures.status)

pub returns-clause-leaves : goal.returns-clause-leaves
returns-clause-leaves g c =
    left_alone (g.F.Sources.contents c.args.sources.now) (request_of c.args.command) (g.D.Folder.saved c.args.folder.now) _
    (not_zero c.in-Err.e _ c.report-in-Err.ensures.status)

pub returns-then-skips-clause-leaves : goal.returns-then-skips-clause-leaves
returns-then-skips-clause-leaves g c =
    left_alone (g.F.Sources.contents c.args.sources.now) (request_of c.args.command) (g.D.Folder.saved c.args.folder.now) c.answer_good.result
    (λ zero. omega (arith, zero, c.answer_good.ensures.above))

pub returns-in-Ok-default-false-clause-leaves : goal.returns-in-Ok-default-false-clause-leaves
returns-in-Ok-default-false-clause-leaves g c =
    left_by (g.F.Sources.contents c.args.sources.now) (request_of c.args.command) (g.D.Folder.saved c.args.folder.now) (g.D.Folder.saved c.answer-answered.new.folder)
    c.answer-answered.result _ (rw c.new-loaded.ensures at c.answer-answered.ensures.leaves) c.report-in-Ok-default-false.ensures.status
