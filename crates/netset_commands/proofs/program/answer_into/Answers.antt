use Rattle.std.proofs.Common.{arith, inr, refl, sym}
use Rattle.netset_commands.specs.Command.{request_of}
use Rattle.netset_commands.specs.declared.errors.CommandError.TheVariants as error
use Rattle.netset_commands.proofs.Left.{no_answer, saved_into}
use Rattle.netset_commands.proofs.Running.{into_lost, into_told, into_unsaved}
use Rattle.netset_commands.proofs.program.answer_into.Goals as goal

pub returns-in_default-clause-runs : goal.returns-in_default-clause-runs
returns-in_default-clause-runs g c =
    into_lost c.args.name.now c.args.reading (g.F.Files.contents c.args.files.now) _ _ _ (g.F.Files.reasons c.args.files.now) (request_of c.args.command) _ c.answer_once-status.new.out _ _ _ (rw c.new-held.ensures refl) (rw (sym c.in_default.ensures.made) at c.finish.ensures) c.in_default.ensures.refused (g.E.Sink.state c.report.new.err)
    c.report.result c.report.ensures.says c.report.ensures.status c.answer_once-status.ensures.runs

pub returns-then-status-gt1-clause-runs : goal.returns-then-status-gt1-clause-runs
returns-then-status-gt1-clause-runs g c =
    into_told c.args.name.now c.args.reading (g.F.Files.contents c.args.files.now) _ _ _ (g.F.Files.reasons c.args.files.now) (request_of c.args.command) _ c.answer_once-status.new.out _ _ _ (rw c.new-held.ensures refl) c.in-Ok.text.items (rw (sym c.in-Ok.ensures.made) at c.finish.ensures) c.in-Ok.ensures.kept c.answer_once-status.ensures.runs

pub returns-in-Ok-replace-clause-runs : goal.returns-in-Ok-replace-clause-runs
returns-in-Ok-replace-clause-runs g c =
    into_told c.args.name.now c.args.reading (g.F.Files.contents c.args.files.now) _ _ _ (g.F.Files.reasons c.args.files.now) (request_of c.args.command) _ c.answer_once-status.new.out _ _ _ (rw c.new-held.ensures refl) c.in-Ok.text.items (rw (sym c.in-Ok.ensures.made) at c.finish.ensures) c.in-Ok.ensures.kept c.answer_once-status.ensures.runs

pub returns-clause-runs : goal.returns-clause-runs
returns-clause-runs g c =
    into_unsaved c.args.name.now c.args.reading (g.F.Files.contents c.args.files.now) _ _ _ (g.F.Files.reasons c.args.files.now) (request_of c.args.command) _ c.answer_once-status.new.out _ _ _ (rw c.new-held.ensures refl) c.in-Ok.text.items (rw (sym c.in-Ok.ensures.made) at c.finish.ensures) c.in-Ok.ensures.kept
    (g.E.Sink.state c.report-in-Err.new.err) c.unsaved.result c.report-in-Err.result (omega (arith, c.if-status-gt1.false)) _ c.in-Err.ensures.refused c.unsaved.ensures c.report-in-Err.ensures.says c.report-in-Err.ensures.status
    c.answer_once-status.ensures.runs

pub returns-in_default-clause-leaves : goal.returns-in_default-clause-leaves
returns-in_default-clause-leaves g c = inr (no_answer error.NoMemory _ c.report.ensures.status, refl)

pub returns-in-Ok-replace-clause-leaves : goal.returns-in-Ok-replace-clause-leaves
returns-in-Ok-replace-clause-leaves g c =
    saved_into c.args.name.now c.args.reading (g.F.Files.contents c.args.files.now) _ (g.F.Files.reasons c.args.files.now) (request_of c.args.command) _ c.answer_once-status.new.out _ _ _ (rw c.new-held.ensures refl) c.in-Ok.text.items (rw (sym c.in-Ok.ensures.made) at c.finish.ensures)
    (g.D.Folder.saved c.args.folder.now) _ (omega (arith, c.if-status-gt1.false)) c.answer_once-status.ensures.runs (rw c.as_slice.ensures.value at c.in-Ok-replace.ensures.saves.0)

pub returns-clause-leaves : goal.returns-clause-leaves
returns-clause-leaves g c = inr (no_answer c.unsaved.result _ c.report-in-Err.ensures.status, c.in-Err.ensures.saves.0)
