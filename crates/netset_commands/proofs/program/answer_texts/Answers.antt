use Rattle.std.proofs.Common.{◌∙◌, ap, arith, map, sym}
use Rattle.std.specs.String.{string_bytes}
use Rattle.netset_commands.specs.Arguments.{read_request}
use Rattle.netset_commands.specs.Command.{misuse_line, given_parts}
use Rattle.netset_commands.specs.declared.errors.CommandError.TheVariants as error
use Rattle.netset_commands.proofs.Running.{found_none, found_parts, run_found, run_misused}
use Rattle.netset_commands.proofs.Left.{left_found, none_left, no_answer}
use Rattle.netset_commands.proofs.program.answer_texts.Goals as goal

pub returns-in-Ok-line_parts-clause-runs : goal.returns-in-Ok-line_parts-clause-runs
returns-in-Ok-line_parts-clause-runs g c =
    run_found _ _ (g.F.Files.contents c.args.files.now)
    (record { memory = g.M.Memory.refused c.answer_parts.new.memory; folder = g.D.Folder.refused c.answer_parts.new.folder; files = g.F.Files.reasons c.args.files.now }) (g.O.Output.closed c.answer_parts.new.out)
    (g.O.Sink.state c.args.out.now) (g.O.Sink.state c.answer_parts.new.out) (g.E.Sink.state c.args.err.now) (g.E.Sink.state c.answer_parts.new.err) c.answer_parts.result
    (found_parts (map string_bytes c.args.texts.now) c.in-Ok-line_parts.verb (given_parts c.in-Ok-line_parts.parts)
    (rw (c.as_slice.ensures.value, c.in-Ok.ensures.slices) at c.in-Ok-line_parts.ensures)
    ∙ ap (read_request c.in-Ok-line_parts.verb) (sym c.given.ensures)) c.answer_parts.ensures.runs

pub returns-in-Err-Misuse-clause-runs : goal.returns-in-Err-Misuse-clause-runs
returns-in-Err-Misuse-clause-runs g c =
    run_misused _ (misuse_line c.in-Err-Misuse.misuse) (g.F.Files.contents c.args.files.now)
    (record { memory = g.M.Memory.refused c.line_parts.new.memory; folder = g.D.Folder.refused c.args.folder.now; files = g.F.Files.reasons c.args.files.now }) (g.O.Output.closed c.args.out.now)
    (g.O.Sink.state c.args.out.now) (g.E.Sink.state c.args.err.now) (g.E.Sink.state c.report_misuse.new.err) c.report_misuse.result
    (found_none (map string_bytes c.args.texts.now) (misuse_line c.in-Err-Misuse.misuse)
    (rw (c.as_slice.ensures.value, c.in-Ok.ensures.slices, c.in-Err-Misuse.field-0-is) at c.in-Err-Misuse.ensures)) c.report_misuse.ensures.says c.report_misuse.ensures.status

pub returns-in-Ok-line_parts-clause-leaves : goal.returns-in-Ok-line_parts-clause-leaves
returns-in-Ok-line_parts-clause-leaves g c =
    left_found _ _ (g.F.Files.contents c.args.files.now) (g.D.Folder.saved c.args.folder.now) (g.D.Folder.saved c.answer_parts.new.folder) c.answer_parts.result
    (found_parts (map string_bytes c.args.texts.now) c.in-Ok-line_parts.verb (given_parts c.in-Ok-line_parts.parts)
    (rw (c.as_slice.ensures.value, c.in-Ok.ensures.slices) at c.in-Ok-line_parts.ensures)
    ∙ ap (read_request c.in-Ok-line_parts.verb) (sym c.given.ensures)) c.answer_parts.ensures.leaves

pub returns-in-Err-Misuse-clause-leaves : goal.returns-in-Err-Misuse-clause-leaves
returns-in-Err-Misuse-clause-leaves g c =
    none_left _ (g.F.Files.contents c.args.files.now) (g.D.Folder.saved c.args.folder.now) _
    (omega (arith, c.report_misuse.ensures.status))

pub returns-in_default-clause-leaves : goal.returns-in_default-clause-leaves
returns-in_default-clause-leaves g c =
    none_left _ (g.F.Files.contents c.args.files.now) (g.D.Folder.saved c.args.folder.now) _ (no_answer error.NoMemory _ c.report.ensures.status)

pub returns-clause-leaves : goal.returns-clause-leaves
returns-clause-leaves g c =
    none_left _ (g.F.Files.contents c.args.files.now) (g.D.Folder.saved c.args.folder.now) _ (no_answer error.NoMemory _ c.report-in-Err-NoMemory.ensures.status)
