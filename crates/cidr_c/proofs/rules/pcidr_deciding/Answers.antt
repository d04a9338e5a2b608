use Rattle.std.proofs.Common.{◌↔◌, ℕ, Bool, List, map, subst, ◌∙◌}
use Rattle.std.specs.List.{Contains}
use Rattle.cidr.specs.either.IpNetwork.{any_bits}
use Rattle.cidr.specs.declared.cidr.any.AnyIpCidr.{AnyIpCidr}
use Rattle.cidr_sets.specs.model.FirstRules.{IsDeciding}
use Rattle.cidr_sets.specs.declared.access.Rule.{Rule}
use Rattle.cidr_c.specs.calls.Batches.{IsListPut}
use Rattle.cidr_c.specs.model.Rules.{AreRules, rule_bits}
use Rattle.cidr_c.specs.model.Values.{IsNetworkValue, network_in}
use Rattle.cidr_c.proofs.RuleLists.{bits_of_rules, indexes_sought}
use Rattle.cidr_c.proofs.rules.pcidr_deciding.Goals as goal

pub returns-in-Ok-deciding : goal.returns-in-Ok-deciding
returns-in-Ok-deciding c =
    let rules = c.args.rules.now in
    let told = c.in-Ok.ensures in
    let asked = c.in-Some.ensures in
    let found = c.in-Ok-deciding in
    let put = c.put_list.new in
    let p = any_bits (network_in c.args.network.now) in
    let xs = map (λ (r : Rule AnyIpCidr). any_bits r.network) c.as_slice.result.now in
    let same = bits_of_rules rules c.as_slice.result.now (c.as_slice.ensures.value ∙ told.1) in
    indexes_sought (AreRules rules × IsNetworkValue c.args.network.now) (IsDeciding 129 (rule_bits rules) p) found.indexes.items
    c.args.out.now put.out c.args.count.now put.count c.put_list.result (told.0, asked.0)
    (subst (λ (ps : List (List Bool)). (i : ℕ) → Contains found.indexes.items i ↔ IsDeciding 129 ps p i) same
    (subst (λ (n : AnyIpCidr). (i : ℕ) → Contains found.indexes.items i ↔ IsDeciding 129 xs (any_bits n) i) asked.1 found.ensures.indices))
    found.ensures.ascending
    (subst (λ (l : List ℕ). IsListPut l c.args.out.now put.out put.count c.put_list.result) c.as_slice-in-Ok-deciding.ensures.value
    c.put_list.ensures)
