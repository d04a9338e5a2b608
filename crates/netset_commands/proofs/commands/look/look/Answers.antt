use Rattle.std.proofs.Common.{inl, inr, refl, sym, subst}
use Rattle.std.proofs.lemmas.Result.{err_from_is_err_and}
use Rattle.netset_commands.specs.Causes.{FileFails}
use Rattle.netset_commands.specs.Look.{IsUnreadTable}
use Rattle.netset_commands.specs.Stored.{AreFileBytes, by_family}
use Rattle.netset_commands.proofs.Given.{no_file, says_table, unfit_cause, unfit_row}
use Rattle.netset_commands.proofs.Looked.{told_file}
use Rattle.netset_commands.proofs.commands.look.look.Goals as goal

pub returns-in_err-rows-clause-answers : goal.returns-in_err-rows-clause-answers
returns-in_err-rows-clause-answers g c =
    let (y, is, same) = err_from_is_err_and c.from_residual.result c.from_residual.ensures.1 in
    rw (is, same) (inl (inl (refl, inl c.in_err-rows.ensures.gives)))

pub returns-in_err-stored-in-Stored-clause-answers : goal.returns-in_err-stored-in-Stored-clause-answers
returns-in_err-stored-in-Stored-clause-answers g c =
    let (y, is, same) = err_from_is_err_and c.from_residual-in_err-stored-in-Stored.result c.from_residual-in_err-stored-in-Stored.ensures.1 in
    rw (is, same) (inl (inl (
      refl,
      inl (no_file (IsUnreadTable c.args.seeking.form (g.F.Sources.contents c.args.sources.now c.args.table.now) c.args.table.now)
          (g.F.Sources.contents c.args.sources.now c.args.table.now) c.args.table.now c.as_slice.result.now _ tt
          (subst (AreFileBytes (g.F.Sources.contents c.args.sources.now c.args.table.now)) (sym c.as_slice.ensures.value) (rw c.in-Stored.is at c.in_ok-rows.ensures.gives))
          c.in_err-stored-in-Stored.ensures.checks),
    )))

pub returns-in_err-check_values-in-Stored-clause-answers : goal.returns-in_err-check_values-in-Stored-clause-answers
returns-in_err-check_values-in-Stored-clause-answers g c =
    let (y, is, same) = err_from_is_err_and c.from_residual-in_err-check_values-in-Stored.result c.from_residual-in_err-check_values-in-Stored.ensures.1 in
    rw (is, same) (inl (inl (
      refl,
      inr (inl (unfit_row c.args.seeking.form (g.F.Sources.contents c.args.sources.now c.args.table.now) c.args.table.now c.in-Stored.bytes.items
          (by_family c.in_ok-stored-in-Stored.stored) _ (rw c.in-Stored.is at c.in_ok-rows.ensures.gives)
          (rw c.as_slice.ensures.value at c.in_ok-stored-in-Stored.ensures.checks) c.in_err-check_values-in-Stored.ensures)),
    )))

pub returns-in_err-check_values-in-Stored-clause-cause : goal.returns-in_err-check_values-in-Stored-clause-cause
returns-in_err-check_values-in-Stored-clause-cause g c =
    let (y, is, same) = err_from_is_err_and c.from_residual-in_err-check_values-in-Stored.result c.from_residual-in_err-check_values-in-Stored.ensures.1 in
    rw (is, same) (unfit_cause (FileFails (g.F.Sources.contents c.args.sources.now) (g.F.Sources.reasons c.args.sources.now)) _ c.args.seeking.form.values (by_family c.in_ok-stored-in-Stored.stored) c.args.table.now _
    c.in_err-check_values-in-Stored.ensures)

pub returns-in-Lines-clause-answers : goal.returns-in-Lines-clause-answers
returns-in-Lines-clause-answers g c =
    let gives = rw c.in-Lines.is at c.in_ok-rows.ensures.gives in
    told_file (g.F.Sources.contents c.args.sources.now) c.args.seeking c.args.table.now c.args.file.now _ (g.O.Sink.state c.args.out.now) (g.O.Sink.state c.look_in.new.out)
    (λ text is. inl (gives text is)) c.look_in.result c.look_in.ensures.tells

pub returns-in_ok-check_values-in-Stored-clause-answers : goal.returns-in_ok-check_values-in-Stored-clause-answers
returns-in_ok-check_values-in-Stored-clause-answers g c =
    told_file (g.F.Sources.contents c.args.sources.now) c.args.seeking c.args.table.now c.args.file.now _ (g.O.Sink.state c.args.out.now) (g.O.Sink.state c.look_in-in-Stored.new.out)
    (says_table c.args.seeking.form (g.F.Sources.contents c.args.sources.now c.args.table.now) c.in-Stored.bytes.items
    (by_family c.in_ok-stored-in-Stored.stored) (rw c.in-Stored.is at c.in_ok-rows.ensures.gives)
    (rw c.as_slice.ensures.value at c.in_ok-stored-in-Stored.ensures.checks) c.in_ok-check_values-in-Stored.ensures) c.look_in-in-Stored.result c.look_in-in-Stored.ensures.tells
