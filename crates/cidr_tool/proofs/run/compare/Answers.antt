use Rattle.std.proofs.Common.{refl, inr, ap, ◌∙◌}
use Rattle.std.proofs.lemmas.Result.{err_from_is_err_and}
use Rattle.cidr_tool.specs.Answer.{order_text}
use Rattle.cidr_tool.proofs.run.compare.Goals as goal

pub returns-in_err-write_text : goal.returns-in_err-write_text
returns-in_err-write_text g c =
    let residual = c.from_residual-in_err-write_text in
    let p = err_from_is_err_and residual.result residual.ensures.1 in
    let written = c.in_err-write_text.ensures in
    rw (p.1, p.2) (inr (
      c.order_name.result.now,
      (c.in_ok-first.first, c.in_ok-second.second, c.in_ok-first.ensures.value, c.in_ok-second.ensures.value, c.order_name.ensures ∙ ap order_text c.order_of.ensures),
      (refl, written.0, written.1),
    ))

pub returns : goal.returns
returns g c = inr (
  c.order_name.result.now,
  (c.in_ok-first.first, c.in_ok-second.second, c.in_ok-first.ensures.value, c.in_ok-second.ensures.value, c.order_name.ensures ∙ ap order_text c.order_of.ensures),
  c.in_ok-write_text.ensures,
)
