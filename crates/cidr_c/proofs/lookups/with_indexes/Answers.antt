use Rattle.std.proofs.Common.{ℕ, List, [], ◌∷◌, ◌++◌, take, ap, ◌∙◌}
use Rattle.cidr.specs.declared.cidr.any.AnyIpCidr.{AnyIpCidr}
use Rattle.cidr_table.specs.model.Loading.{placed}
use Rattle.cidr_c.proofs.Indexes.{placed_more}
use Rattle.cidr_c.proofs.lookups.with_indexes.Goals as goal

pub loop-i-preserved : goal.loop-i-preserved
loop-i-preserved c =
    c.in_ok-push.ensures.items
    ∙ (ap (λ (l : List (AnyIpCidr × ℕ)). l ++ (c.index-networks-i.result, c.loop-i.i) ∷ []) c.loop-i.invariant
    ∙ (ap (λ (n : AnyIpCidr). placed 0 (take c.loop-i.i c.args.networks.now) ++ (n, c.loop-i.i) ∷ []) c.index-networks-i.is
    ∙ placed_more c.args.networks.now c.loop-i.i _ c.loop-i-test.true))
