use Rattle.std.proofs.Common.{refl, inr}
use Rattle.std.proofs.lemmas.Result.{err_from_is_err_and}
use Rattle.cidr_tool.proofs.Words.{yes_or_no}
use Rattle.cidr_tool.proofs.run.holds.Goals as goal

pub returns-in_err-write_text : goal.returns-in_err-write_text
returns-in_err-write_text g c =
    let residual = c.from_residual-in_err-write_text in
    let p = err_from_is_err_and residual.result residual.ensures.1 in
    let written = c.in_err-write_text.ensures in
    rw (p.1, p.2) (inr (
      c.yes_or_no.result.now,
      (c.in_ok-holder.holder, c.in_ok-address.address, c.in_ok-holder.ensures.value, c.in_ok-address.ensures.value, yes_or_no _ _ _ _ _ c.contains.ensures c.yes_or_no.ensures),
      (refl, written.0, written.1),
    ))

pub returns : goal.returns
returns g c = inr (
  c.yes_or_no.result.now,
  (c.in_ok-holder.holder, c.in_ok-address.address, c.in_ok-holder.ensures.value, c.in_ok-address.ensures.value, yes_or_no _ _ _ _ _ c.contains.ensures c.yes_or_no.ensures),
  c.in_ok-write_text.ensures,
)
