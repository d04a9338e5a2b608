use Rattle.std.proofs.Common.{[], ◌∷◌, ◌++◌, ap, ◌∙◌}
use Rattle.cidr.specs.declared.cidr.any.AnyIpCidr.{AnyIpCidr}
use Rattle.cidr_c.specs.model.Values.{IsNetworkValue, network_in}
use Rattle.cidr_c.proofs.NetworkLists.{item_more}
use Rattle.cidr_c.proofs.batches.networks_of.Goals as goal

pub loop-value-preserved : goal.loop-value-preserved
loop-value-preserved c =
    let told = c.in-Some.ensures in
    let more =
    item_more IsNetworkValue network_in c.args.values.now c.loop-value.value-index (record { high = 0; low = 0; tag = 0; zero_17 = 0; zero_18 = 0; zero_20 = 0 }) c.loop-value.networks.items c.loop-value-test.true
    c.loop-value.invariant.0 c.loop-value.invariant.1 told.0 in
    (more.0, c.in-Ok-push.ensures.items ∙ (ap (λ (n : AnyIpCidr). c.loop-value.networks.items ++ n ∷ []) told.1 ∙ more.1))
