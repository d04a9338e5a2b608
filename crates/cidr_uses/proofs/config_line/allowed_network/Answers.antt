use Rattle.std.proofs.Common.{◌≡◌, ◌++◌, sym, ◌∙◌, ap}
use Rattle.std.proofs.lemmas.Result.{err_from_is_err_and}
use Rattle.cidr_uses.specs.ConfigLine.{verb}
use Rattle.cidr_uses.proofs.ConfigLines.{line_refused}
use Rattle.cidr_uses.proofs.config_line.allowed_network.Goals as goal

pub returns-in_err-parse-in-Some : goal.returns-in_err-parse-in-Some
returns-in_err-parse-in-Some c =
    let (n, found, rest, total) = c.in-Some.ensures.cases in
    let begins : c.args.line.now ≡ verb ++ c.in-Some.text.now = found.1 ∙ ap (λ t. verb ++ t) (sym rest) in
    let (refused, none) = c.in_err-parse-in-Some.ensures.value in
    let p = err_from_is_err_and c.from_residual.result c.from_residual.ensures.1 in
    rw (p.1, p.2) (line_refused c.args.line.now c.in-Some.text.now _ begins refused none)
