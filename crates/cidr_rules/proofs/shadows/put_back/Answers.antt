use Rattle.std.proofs.Common.{◌≡◌, ◌<◌, ◌+◌, suc, length, set, ◌∙◌, ap, arith}
use Rattle.std.specs.List.{remove}
use Rattle.cidr_rules.proofs.Needless.{removed_next}
use Rattle.cidr_rules.proofs.shadows.put_back.Goals as goal

pub returns-then-i-rules : goal.returns-then-i-rules
returns-then-i-rules g c =
    let next : suc c.args.i ≡ c.args.i + 1 = omega arith in
    let lt : suc c.args.i < length c.args.rules.now = omega arith in
    λ _. ap (λ l. set l c.args.i c.index-rules-i.result) c.requires.rest
    ∙ removed_next c.args.rules.now c.args.i c.index-rules-i.result lt c.index-rules-i.is
    ∙ ap (λ n. remove c.args.rules.now n) next
