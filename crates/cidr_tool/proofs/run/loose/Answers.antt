use Rattle.std.proofs.Common.{refl, inr, ◌++◌, codes}
use Rattle.std.proofs.lemmas.Result.{err_from_is_err_and}
use Rattle.cidr.specs.texts.PrintedAddress.{ip_text}
use Rattle.cidr_tool.proofs.run.loose.Goals as goal

pub returns-in_err-write_text : goal.returns-in_err-write_text
returns-in_err-write_text g c =
    let residual = c.from_residual-in_err-write_text in
    let p = err_from_is_err_and residual.result residual.ensures.1 in
    let written = rw (c.as_str.ensures.value, c.address_line.ensures) at c.in_err-write_text.ensures in
    rw (p.1, p.2) (inr (
      ip_text c.in_ok-address.address ++ codes "\n",
      (c.in_ok-address.address, c.in_ok-address.ensures, refl),
      (refl, written.0, written.1),
    ))

pub returns : goal.returns
returns g c = inr (
  ip_text c.in_ok-address.address ++ codes "\n",
  (c.in_ok-address.address, c.in_ok-address.ensures, refl),
  rw (c.as_str.ensures.value, c.address_line.ensures) at c.in_ok-write_text.ensures,
)
