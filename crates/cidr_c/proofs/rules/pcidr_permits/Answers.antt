use Rattle.std.proofs.Common.{List, refl}
use Rattle.cidr.specs.declared.cidr.any.AnyIpCidr.{AnyIpCidr}
use Rattle.cidr.specs.either.IpNetwork.{any_bits}
use Rattle.cidr_sets.specs.model.FirstRules.{IsPermitted}
use Rattle.cidr_c.specs.model.Rules.{AreRules, rule_actions, rule_bits}
use Rattle.cidr_c.specs.model.Values.{IsNetworkValue, network_in}
use Rattle.cidr_c.specs.declared.rules.CRule.{CRule}
use Rattle.cidr_c.proofs.Sought.{both_answered}
use Rattle.cidr_c.proofs.rules.pcidr_permits.Goals as goal

pub returns-then-are_rules : goal.returns-then-are_rules
returns-then-are_rules c =
    let rules = c.args.rules.now in
    both_answered (AreRules rules) (IsNetworkValue c.args.address.now)
    (λ (r : List CRule) (n : AnyIpCidr). IsPermitted (rule_bits r) (rule_actions r) (any_bits n))
    rules rules c.in-Some.address (network_in c.args.address.now) c.is_permitted.result c.yes_or_no.result
    (c.are_rules.ensures.0 c.if-are_rules.true, refl) c.in-Some.ensures c.is_permitted.ensures c.yes_or_no.ensures
