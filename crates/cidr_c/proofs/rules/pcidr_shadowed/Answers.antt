use Rattle.std.proofs.Common.{◌↔◌, ℕ, Bool, List, subst, ◌∙◌}
use Rattle.std.specs.List.{Contains}
use Rattle.cidr_sets.specs.model.FirstRules.{IsShadowed}
use Rattle.cidr_c.specs.calls.Batches.{IsListPut}
use Rattle.cidr_c.specs.model.Rules.{AreRules, rule_bits}
use Rattle.cidr_c.proofs.RuleLists.{bits_of_rules, indexes_sought}
use Rattle.cidr_c.proofs.rules.pcidr_shadowed.Goals as goal

pub returns-in-Ok-shadowed : goal.returns-in-Ok-shadowed
returns-in-Ok-shadowed c =
    let rules = c.args.rules.now in
    let told = c.in-Ok.ensures in
    let found = c.in-Ok-shadowed in
    let put = c.put_list.new in
    let same = bits_of_rules rules c.as_slice.result.now (c.as_slice.ensures.value ∙ told.1) in
    indexes_sought (AreRules rules) (IsShadowed 129 (rule_bits rules)) found.indexes.items c.args.out.now put.out c.args.count.now put.count
    c.put_list.result told.0
    (subst (λ (ps : List (List Bool)). (i : ℕ) → Contains found.indexes.items i ↔ IsShadowed 129 ps i) same found.ensures.indices)
    found.ensures.ascending
    (subst (λ (l : List ℕ). IsListPut l c.args.out.now put.out put.count c.put_list.result) c.as_slice-in-Ok-shadowed.ensures.value
    c.put_list.ensures)
