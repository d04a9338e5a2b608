use Rattle.std.proofs.Common.{refl, inr, ◌++◌, codes}
use Rattle.std.proofs.lemmas.Result.{err_from_is_err_and}
use Rattle.cidr.specs.bytes.Compact.{any_network_bytes}
use Rattle.cidr_tool.specs.Answer.{hex_text}
use Rattle.cidr_tool.proofs.run.bytes.Goals as goal

pub returns-in_err-write_text : goal.returns-in_err-write_text
returns-in_err-write_text g c =
    let residual = c.from_residual-in_err-write_text in
    let p = err_from_is_err_and residual.result residual.ensures.1 in
    let written = rw (c.as_str.ensures.value, c.hex_line.ensures, c.as_slice.ensures.value, c.to_compact.ensures.bytes) at c.in_err-write_text.ensures in
    rw (p.1, p.2) (inr (
      hex_text (any_network_bytes c.in_ok-value.value) ++ codes "\n",
      (c.in_ok-value.value, c.in_ok-value.ensures.value, refl),
      (refl, written.0, written.1),
    ))

pub returns : goal.returns
returns g c = inr (
  hex_text (any_network_bytes c.in_ok-value.value) ++ codes "\n",
  (c.in_ok-value.value, c.in_ok-value.ensures.value, refl),
  rw (c.as_str.ensures.value, c.hex_line.ensures, c.as_slice.ensures.value, c.to_compact.ensures.bytes) at c.in_ok-write_text.ensures,
)
