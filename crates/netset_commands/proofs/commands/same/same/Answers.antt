use Rattle.std.proofs.Common.{inl, inr, refl, sym}
use Rattle.std.proofs.lemmas.Result.{err_from_is_err_and}
use Rattle.netset_commands.specs.Rows.{kept}
use Rattle.netset_commands.specs.Causes.{FileFails}
use Rattle.netset_commands.proofs.Causes.{output_cause}
use Rattle.netset_commands.proofs.Differing.{same_written}
use Rattle.netset_commands.proofs.commands.same.same.Goals as goal

pub returns-clause-answers : goal.returns-clause-answers
returns-clause-answers g c =
    same_written (g.F.Sources.contents c.args.sources.now) c.args.form c.args.old.now c.args.new.now c.in_ok-before.before c.in_ok-after.after c.in_ok-made.made
    (g.O.Sink.state c.args.out.now) (g.O.Sink.state c.write_found.new.out) c.verdict_of.result c.write_found.result c.by_output.result
    c.in_ok-before.ensures.reads c.in_ok-after.ensures.reads (rw (sym c.in_ok-made.ensures.made) at c.compare-made.ensures) c.verdict_of.ensures c.write_found.ensures c.by_output.ensures

pub returns-in_err-before-clause-answers : goal.returns-in_err-before-clause-answers
returns-in_err-before-clause-answers g c =
    let (y, is, same) = err_from_is_err_and c.from_residual.result c.from_residual.ensures.1 in
    rw (is, same) (inl (refl, inl c.in_err-before.ensures.reads))

pub returns-in_err-after-clause-answers : goal.returns-in_err-after-clause-answers
returns-in_err-after-clause-answers g c =
    let (y, is, same) = err_from_is_err_and c.from_residual-in_err-after.result c.from_residual-in_err-after.ensures.1 in
    rw (is, same) (inl (refl, inr (λ text told. (kept c.in_ok-before.before, c.in_ok-before.ensures.reads text told), c.in_err-after.ensures.reads)))

pub returns-in_err-made-clause-answers : goal.returns-in_err-made-clause-answers
returns-in_err-made-clause-answers g c =
    let (y, is, same) = err_from_is_err_and c.from_residual-in_err-made.result c.from_residual-in_err-made.ensures.1 in
    rw (is, same) (inl (refl, inl tt))

pub returns-clause-cause : goal.returns-clause-cause
returns-clause-cause g c = output_cause (FileFails (g.F.Sources.contents c.args.sources.now) (g.F.Sources.reasons c.args.sources.now)) _ _ _ c.by_output.result c.by_output.ensures
