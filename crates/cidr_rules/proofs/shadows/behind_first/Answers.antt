use Rattle.std.proofs.Common.{◌<◌, ◌≤◌, ◌∷◌, ◌++◌, [], length, sym, ◌∙◌, ap, arith}
use Rattle.cidr_rules.proofs.Needless.{behind_more}
use Rattle.cidr_rules.proofs.shadows.behind_first.Goals as goal

pub loop-i-preserved : goal.loop-i-preserved
loop-i-preserved g c =
    let some : 1 ≤ c.loop-i.i = omega arith in
    let lt : c.loop-i.i < length c.args.rules.now = omega arith in
    c.in_ok-push.ensures.items ∙ ap (λ l. l ++ c.index-rules-i.result ∷ []) c.loop-i.invariant
    ∙ sym (behind_more c.args.rules.now c.loop-i.i c.index-rules-i.result some lt c.index-rules-i.is)
