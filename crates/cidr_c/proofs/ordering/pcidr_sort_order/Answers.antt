use Rattle.std.proofs.Common.{◌≡◌, ◌⊎◌, ℕ, List, map, refl, subst}
use Rattle.std.specs.List.Sorted.{IsPermutation}
use Rattle.cidr.specs.declared.cidr.any.AnyIpCidr.{AnyIpCidr}
use Rattle.cidr_c.specs.calls.Batches.{AreNetworkValues, IsListPut}
use Rattle.cidr_c.specs.calls.Ordering.{IsSortOrder}
use Rattle.cidr_c.specs.model.Codes.{no_memory}
use Rattle.cidr_c.specs.model.Values.{network_in}
use Rattle.cidr_c.proofs.Ordered.{indexes_put}
use Rattle.cidr_c.proofs.ordering.pcidr_sort_order.Goals as goal

pub returns-in-Ok : goal.returns-in-Ok
returns-in-Ok c =
    let told = c.in-Ok.ensures in
    let rows = c.sorted.result.items in
    let put = c.put_indexes.new in
    let networks = map network_in c.args.networks.now in
    let same = subst (λ (l : List (AnyIpCidr × ℕ)). IsPermutation l rows) told.1 c.sorted.ensures.same in
    indexes_put (AreNetworkValues c.args.networks.now) (IsSortOrder networks) (map (λ (row : AnyIpCidr × ℕ). row.1) rows) c.args.out.now put.out c.args.count.now
    put.count c.put_indexes.result told.0 (rows, same, c.sorted.ensures.ascending, refl)
    (subst
    (λ (l : List (AnyIpCidr × ℕ)). ((c.put_indexes.result ≡ no_memory) × (put.out ≡ c.args.out.now) × (put.count ≡ c.args.count.now))
    ⊎ IsListPut (map (λ (row : AnyIpCidr × ℕ). row.1) l) c.args.out.now put.out put.count c.put_indexes.result)
    c.as_slice.ensures.value c.put_indexes.ensures)
