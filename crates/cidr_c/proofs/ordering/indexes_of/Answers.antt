use Rattle.std.proofs.Common.{ℕ, List, [], ◌∷◌, ◌++◌, get_or, ap, ◌∙◌}
use Rattle.cidr_c.proofs.Ordered.{index_more}
use Rattle.cidr_c.proofs.ordering.indexes_of.Goals as goal

pub loop-i-preserved : goal.loop-i-preserved
loop-i-preserved c =
    c.in_ok-push.ensures.items
    ∙ (ap (λ (l : List ℕ). l ++ (get_or c.args.rows.now c.loop-i.i c.index-rows-i.result).1 ∷ []) c.loop-i.invariant
    ∙ index_more c.args.rows.now c.loop-i.i c.index-rows-i.result c.loop-i-test.true)
