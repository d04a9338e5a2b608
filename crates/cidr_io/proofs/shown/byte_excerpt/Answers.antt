use Rattle.std.proofs.Common.{ap, ◌∙◌, ℕ, ◌<◌, get_or, arith}
use Rattle.std.specs.Char.{is_ascii_control}
use Rattle.std.specs.List.{list_any}
use Rattle.cidr_io.proofs.Controls.{byte_excerpt_clean}
use Rattle.cidr_io.proofs.shown.byte_excerpt.Goals as goal

pub returns-clause-clean : goal.returns-clause-clean
returns-clause-clean c =
    let fits : (k : ℕ) → get_or c.args.bytes.now k 0 < 256 = λ k. omega (arith, c.type_inv.bytes k) in
    ap (list_any is_ascii_control) c.cut_bytes.ensures ∙ byte_excerpt_clean c.args.bytes.now fits
