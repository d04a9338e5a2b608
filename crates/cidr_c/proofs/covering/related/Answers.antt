use Rattle.std.proofs.Common.{◌↔◌, ℕ, List, subst}
use Rattle.std.specs.List.{Contains}
use Rattle.cidr.specs.either.IpNetwork.{any_bits}
use Rattle.cidr.specs.declared.cidr.any.AnyIpCidr.{AnyIpCidr}
use Rattle.cidr_c.specs.calls.Batches.{AreNetworkValues, IsListPut}
use Rattle.cidr_c.specs.calls.Lookups.{IsRelatedAt}
use Rattle.cidr_c.specs.model.Values.{IsNetworkValue, network_in}
use Rattle.cidr_c.proofs.RuleLists.{indexes_sought}
use Rattle.cidr_c.proofs.covering.related.Goals as goal

pub returns-in-Ok : goal.returns-in-Ok
returns-in-Ok g c =
    let networks = c.args.networks.now in
    let asked = c.args.asked.now in
    let told = c.in-Some.ensures in
    let found = c.in-Ok in
    let put = c.put_list.new in
    let Holds = g.R.Relation.Holds in
    indexes_sought (AreNetworkValues networks × IsNetworkValue asked) (IsRelatedAt Holds networks (any_bits (network_in asked))) found.indexes.items
    c.args.out.now put.out c.args.count.now put.count c.put_list.result (found.ensures.0, told.0)
    (subst (λ (n : AnyIpCidr). (i : ℕ) → Contains found.indexes.items i ↔ IsRelatedAt Holds networks (any_bits n) i) told.1 found.ensures.1) found.ensures.2
    (subst (λ (l : List ℕ). IsListPut l c.args.out.now put.out put.count c.put_list.result) c.as_slice.ensures.value c.put_list.ensures)
