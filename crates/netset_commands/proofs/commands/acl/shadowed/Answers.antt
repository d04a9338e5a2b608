use Rattle.std.proofs.Common.{[], inl, refl, sym}
use Rattle.std.proofs.lemmas.Result.{err_from_is_err_and}
use Rattle.netset_commands.specs.Causes.{FileFails}
use Rattle.netset_commands.specs.declared.errors.CommandError.TheVariants as error
use Rattle.netset_commands.proofs.AccessLists.{first_unread, shadows_told}
use Rattle.netset_commands.proofs.Causes.{output_cause}
use Rattle.netset_commands.proofs.commands.acl.shadowed.Goals as goal

pub returns-in_err-rules-clause-answers : goal.returns-in_err-rules-clause-answers
returns-in_err-rules-clause-answers g c =
    let (y, is, same) = err_from_is_err_and c.from_residual.result c.from_residual.ensures.1 in
    rw (is, same) (inl (refl, first_unread (g.F.Sources.contents c.args.sources.now) c.args.file.now [] _ c.in_err-rules.ensures.reads))

pub returns-in_err-text-clause-answers : goal.returns-in_err-text-clause-answers
returns-in_err-text-clause-answers g c =
    let (y, is, same) = err_from_is_err_and c.from_residual-in_err-text.result c.from_residual-in_err-text.ensures.1 in
    rw (is, same) (inl (refl, first_unread (g.F.Sources.contents c.args.sources.now) c.args.file.now [] error.NoMemory tt))

pub returns-clause-answers : goal.returns-clause-answers
returns-clause-answers g c =
    shadows_told (g.F.Sources.contents c.args.sources.now) c.args.file.now c.in_ok-rules.rules c.in_ok-text.text.items (g.O.Sink.state c.args.out.now)
    (g.O.Sink.state c.write_bytes.new.out) c.clean.result c.write_bytes.result c.by_output.result c.in_ok-rules.ensures.reads
    (rw (sym c.in_ok-text.ensures.made) at c.to_shadow_lines-text.ensures) (rw c.as_slice.ensures.value at c.clean.ensures)
    (rw c.as_slice-2.ensures.value at c.write_bytes.ensures) c.by_output.ensures

pub returns-clause-cause : goal.returns-clause-cause
returns-clause-cause g c = output_cause (FileFails (g.F.Sources.contents c.args.sources.now) (g.F.Sources.reasons c.args.sources.now)) _ _ _ c.by_output.result c.by_output.ensures
