use Rattle.std.proofs.Common.{Bool, List, map, subst, ◌∙◌}
use Rattle.cidr.specs.either.IpNetwork.{any_bits}
use Rattle.cidr.specs.declared.cidr.any.AnyIpCidr.{AnyIpCidr}
use Rattle.cidr_sets.specs.model.FirstRules.{IsPermitted}
use Rattle.cidr_sets.specs.model.Sets.{IsSetOf}
use Rattle.cidr_sets.specs.declared.access.Action.{Action}
use Rattle.cidr_sets.specs.declared.access.Rule.{Rule}
use Rattle.cidr_c.specs.model.Rules.{AreRules, rule_actions, rule_bits}
use Rattle.cidr_c.proofs.NetworkLists.{delivered, if_ok}
use Rattle.cidr_c.proofs.RuleLists.{actions_of_rules, bits_of_rules}
use Rattle.cidr_c.proofs.rules.pcidr_permitted.Goals as goal

pub returns-in-Ok : goal.returns-in-Ok
returns-in-Ok c =
    let rules = c.args.rules.now in
    let told = c.in-Ok.ensures in
    let xs = c.as_slice.result.now in
    let e = c.as_slice.ensures.value ∙ told.1 in
    let Permitted : List (List Bool) → List Action → List (List Bool) → Type 0 = λ networks actions set. IsSetOf 129 (IsPermitted networks actions) set in
    let networks = map (λ (r : Rule AnyIpCidr). any_bits r.network) xs in
    let actions = map (λ (r : Rule AnyIpCidr). r.action) xs in
    delivered (AreRules rules) (Permitted (rule_bits rules) (rule_actions rules)) c.permitted.result c.args.out.now c.deliver.new.out c.args.count.now
    c.deliver.new.count c.deliver.result told.0
    (if_ok (Permitted networks actions) (Permitted (rule_bits rules) (rule_actions rules)) c.permitted.result
    (λ set h. subst (λ (ps : List (List Bool)). Permitted ps (rule_actions rules) set) (bits_of_rules rules xs e)
    (subst (λ (acts : List Action). Permitted networks acts set) (actions_of_rules rules xs e) h)) c.permitted.ensures)
    c.deliver.ensures
