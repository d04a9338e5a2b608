use Rattle.std.proofs.Common.{◌≡◌, [], ◌∷◌, ◌++◌, ap, ◌∙◌, get_or}
use Rattle.cidr.specs.declared.cidr.any.AnyIpCidr.{AnyIpCidr}
use Rattle.cidr_sets.specs.declared.access.Rule.{Rule}
use Rattle.cidr_c.specs.model.Rules.{rule_in}
use Rattle.cidr_c.specs.model.Values.{IsNetworkValue}
use Rattle.cidr_c.specs.declared.rules.CRule.{CRule}
use Rattle.cidr_c.proofs.NetworkLists.{item_more}
use Rattle.cidr_c.proofs.rules.rules_of.Goals as goal

pub loop-rule-preserved : goal.loop-rule-preserved
loop-rule-preserved c =
    let told = c.in-Some.ensures in
    let none : CRule = record { network = record { high = 0; low = 0; tag = 0; zero_17 = 0; zero_18 = 0; zero_20 = 0 }; action = 0 } in
    let more =
    item_more (λ (r : CRule). IsNetworkValue r.network) rule_in c.args.rules.now c.loop-rule.rule-index none c.loop-rule.out.items c.loop-rule-test.true
    c.loop-rule.invariant.0 c.loop-rule.invariant.1 told.0 in
    let same : record { action = c.action_of-action.result; network = c.in-Some.network } ≡ rule_in (get_or c.args.rules.now c.loop-rule.rule-index none) =
    cc (told.1, c.action_of-action.ensures) in
    (more.0, c.in-Ok-push.ensures.items ∙ (ap (λ (r : Rule AnyIpCidr). c.loop-rule.out.items ++ r ∷ []) same ∙ more.1))
