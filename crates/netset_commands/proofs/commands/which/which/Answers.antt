use Rattle.std.proofs.Common.{inl, inr, refl, map}
use Rattle.std.proofs.lemmas.Result.{err_from_is_err_and}
use Rattle.netset_commands.specs.Causes.{FileFails}
use Rattle.netset_commands.proofs.AddressLines.{lines_answered}
use Rattle.netset_commands.proofs.Causes.{argument_cause, output_cause}
use Rattle.netset_commands.proofs.commands.which.which.Goals as goal

pub returns-clause-answers : goal.returns-clause-answers
returns-clause-answers g c =
    lines_answered (g.F.Sources.contents c.args.sources.now) c.args.address.now (map (λ file. file.now) c.args.files.now) c.in_ok-address.address
    c.in_ok-entries.entries.items (g.O.Sink.state c.args.out.now) (g.O.Sink.state c.write_which.new.out) c.write_which.result c.by_output.result c.in_ok-address.ensures
    c.in_ok-entries.ensures.reads (rw c.as_slice-2.ensures.value at c.write_which.ensures)
    (rw (c.verdict_of.ensures, c.some_has-found.ensures, c.as_slice.ensures.value) at c.by_output.ensures)

pub returns-clause-cause : goal.returns-clause-cause
returns-clause-cause g c = output_cause (FileFails (g.F.Sources.contents c.args.sources.now) (g.F.Sources.reasons c.args.sources.now)) _ _ _ c.by_output.result c.by_output.ensures

pub returns-in_err-address-clause-answers : goal.returns-in_err-address-clause-answers
returns-in_err-address-clause-answers g c =
    let (y, is, same) = err_from_is_err_and c.from_residual.result c.from_residual.ensures.1 in
    rw (is, same) (inl (refl, inl c.in_err-address.ensures))

pub returns-in_err-address-clause-cause : goal.returns-in_err-address-clause-cause
returns-in_err-address-clause-cause g c =
    let (y, is, same) = err_from_is_err_and c.from_residual.result c.from_residual.ensures.1 in
    rw (is, same) (argument_cause (FileFails (g.F.Sources.contents c.args.sources.now) (g.F.Sources.reasons c.args.sources.now)) _ _ c.in_err-address.field-0.0 c.in_err-address.ensures)

pub returns-in_err-entries-clause-answers : goal.returns-in_err-entries-clause-answers
returns-in_err-entries-clause-answers g c =
    let (y, is, same) = err_from_is_err_and c.from_residual-in_err-entries.result c.from_residual-in_err-entries.ensures.1 in
    rw (is, same) (inl (refl, inr (c.in_ok-address.address, c.in_ok-address.ensures, c.in_err-entries.ensures.reads)))
