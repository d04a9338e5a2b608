use Rattle.std.proofs.Common.{inl, inr, refl, sym}
use Rattle.std.proofs.lemmas.Result.{err_from_is_err_and}
use Rattle.netset_commands.proofs.commands.changes.tell_changes.Goals as goal

pub returns : goal.returns
returns g c = inr (
  c.in_ok-added.added,
  c.in_ok-lacking.lacking,
  c.verdict_of.result,
  c.write_both.result,
  rw (sym c.in_ok-added.ensures.made) at c.stepped-added.ensures,
  rw (sym c.in_ok-lacking.ensures.made) at c.stepped-lacking.ensures,
  c.verdict_of.ensures,
  c.write_both.ensures,
  c.by_output.ensures,
)

pub returns-in_err-added : goal.returns-in_err-added
returns-in_err-added g c =
    let (y, is, same) = err_from_is_err_and c.from_residual.result c.from_residual.ensures.1 in
    inl (refl, c.in_err-added.ensures.refused, rw same at is)

pub returns-in_err-lacking : goal.returns-in_err-lacking
returns-in_err-lacking g c =
    let (y, is, same) = err_from_is_err_and c.from_residual-in_err-lacking.result c.from_residual-in_err-lacking.ensures.1 in
    inl (refl, c.in_err-lacking.ensures.refused, rw same at is)
