use Rattle.std.proofs.Common.{refl, inr}
use Rattle.std.proofs.lemmas.Result.{err_from_is_err_and}
use Rattle.cidr_tool.specs.Answer.{show_text}
use Rattle.cidr_tool.proofs.run.show.Goals as goal

pub returns-in_err-write_text : goal.returns-in_err-write_text
returns-in_err-write_text g c =
    let residual = c.from_residual-in_err-write_text in
    let p = err_from_is_err_and residual.result residual.ensures.1 in
    let written = rw (c.as_str.ensures.value, c.shown.ensures) at c.in_err-write_text.ensures in
    rw (p.1, p.2) (inr (
      show_text c.in_ok-network.network,
      (c.in_ok-network.network, c.in_ok-network.ensures.value, refl),
      (refl, written.0, written.1),
    ))

pub returns : goal.returns
returns g c = inr (
  show_text c.in_ok-network.network,
  (c.in_ok-network.network, c.in_ok-network.ensures.value, refl),
  rw (c.as_str.ensures.value, c.shown.ensures) at c.in_ok-write_text.ensures,
)
