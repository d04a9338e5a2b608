use Rattle.std.proofs.Common.{get_or, sym, ◌∙◌}
use Rattle.std.proofs.lemmas.Bool.{true≢false}
use Rattle.std.proofs.lemmas.List.{get_or_default}
use Rattle.cidr.specs.either.IpNetwork.{any_bits}
use Rattle.cidr_sets.proofs.FirstRules.{one_decides, one_passes}
use Rattle.cidr_c.specs.model.Rules.{action_in}
use Rattle.cidr_c.specs.model.Values.{network_in}
use Rattle.cidr_c.specs.declared.rules.CRule.{CRule}
use Rattle.cidr_c.proofs.rules.is_permitted.Goals as goal

pub is_for-requires : goal.is_for-requires
is_for-requires c = c.requires c.loop-rule.rule-index _ c.loop-rule-test.true

pub returns-then-is_for : goal.returns-then-is_for
returns-then-is_for c =
    let rules = c.args.rules.now in
    let i = c.loop-rule.rule-index in
    let r = get_or rules i (record { network = record { high = 0; low = 0; tag = 0; zero_17 = 0; zero_18 = 0; zero_20 = 0 }; action = 0 }) in
    one_decides (λ (r : CRule). any_bits (network_in r.network)) action_in rules (any_bits c.args.address.now) i c.loop-rule.invariant
    r c.loop-rule-test.true (get_or_default rules i (record { network = record { high = 0; low = 0; tag = 0; zero_17 = 0; zero_18 = 0; zero_20 = 0 }; action = 0 }) r c.loop-rule-test.true) c.does_permit.result (c.is_for.ensures.0 c.if-is_for.true) c.does_permit.ensures

pub loop-rule-preserved : goal.loop-rule-preserved
loop-rule-preserved c =
    let rules = c.args.rules.now in
    let i = c.loop-rule.rule-index in
    let r = get_or rules i (record { network = record { high = 0; low = 0; tag = 0; zero_17 = 0; zero_18 = 0; zero_20 = 0 }; action = 0 }) in
    one_passes (λ (r : CRule). any_bits (network_in r.network)) action_in rules (any_bits c.args.address.now) i c.loop-rule.invariant
    r c.loop-rule-test.true (get_or_default rules i (record { network = record { high = 0; low = 0; tag = 0; zero_17 = 0; zero_18 = 0; zero_20 = 0 }; action = 0 }) r c.loop-rule-test.true) (λ b. true≢false (sym (c.is_for.ensures.1 b) ∙ c.if-is_for.false))
