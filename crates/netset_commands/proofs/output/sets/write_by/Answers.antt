use Rattle.std.proofs.Common.{refl, sym, inl, inr}
use Rattle.std.proofs.lemmas.Result.{err_from_is_err_and}
use Rattle.netset_commands.proofs.output.sets.write_by.Goals as goal

pub returns-in-None : goal.returns-in-None
returns-in-None g c = rw c.in-None.is (inr (c.write_sets.result, c.write_sets.ensures, c.by_output.ensures))

pub returns-in_ok-text-in-Some : goal.returns-in_ok-text-in-Some
returns-in_ok-text-in-Some g c =
    rw c.in-Some.is (inr (
      c.write_bytes.result,
      rw (c.as_slice.ensures.value, rw (sym c.in_ok-text-in-Some.ensures.made) at c.to_style-text.ensures) at c.write_bytes.ensures,
      c.by_output-in-Some.ensures,
    ))

pub returns-in_err-text-in-Some : goal.returns-in_err-text-in-Some
returns-in_err-text-in-Some g c =
    let (y, is, same) = err_from_is_err_and c.from_residual.result c.from_residual.ensures.1 in
    inl (refl, c.in_err-text-in-Some.ensures.refused, rw same at is)
