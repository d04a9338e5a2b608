use Rattle.std.proofs.Common.{◌∙◌, ◌++◌, ◌∷◌, [], List, ℕ, arith, length, take, ap, ◌+◌, ◌<◌}
use Rattle.cidr_c.proofs.LineSteps.{line_put}
use Rattle.cidr_c.proofs.lines.print_line.Goals as goal

pub returns-clause-line : goal.returns-clause-line
returns-clause-line c =
    let bytes = c.as_bytes-bytes.result.now in
    let fits : c.args.at + length bytes < length c.args.out.now = omega arith in
    let put = line_put c.args.at c.args.out.now c.copy_from_slice.new.self bytes c.copy_from_slice.ensures.after fits in
    (put.0, put.1 ∙ ap (λ (t : List ℕ). take c.args.at c.args.out.now ++ (t ++ 10 ∷ [])) c.as_bytes-bytes.ensures.value)

pub returns-clause-behind : goal.returns-clause-behind
returns-clause-behind c =
    let bytes = c.as_bytes-bytes.result.now in
    let fits : c.args.at + length bytes < length c.args.out.now = omega arith in
    (line_put c.args.at c.args.out.now c.copy_from_slice.new.self bytes c.copy_from_slice.ensures.after fits).2
