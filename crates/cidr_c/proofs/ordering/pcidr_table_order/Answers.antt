use Rattle.std.proofs.Common.{ℕ, map, refl}
use Rattle.cidr_table.specs.model.LastRows.{AreLastRows}
use Rattle.cidr_table.specs.model.Loading.{placed}
use Rattle.cidr.specs.declared.cidr.any.AnyIpCidr.{AnyIpCidr}
use Rattle.cidr_c.specs.calls.Batches.{AreNetworkValues}
use Rattle.cidr_c.specs.calls.Ordering.{IsTableOrder}
use Rattle.cidr_c.specs.model.Values.{network_in}
use Rattle.cidr_c.proofs.Ordered.{indexes_put}
use Rattle.cidr_c.proofs.ordering.pcidr_table_order.Goals as goal

pub returns-in-Ok : goal.returns-in-Ok
returns-in-Ok c =
    let told = c.in-Ok.ensures in
    let rows = c.all_of.result.now in
    let put = c.put_indexes.new in
    let networks = map network_in c.args.networks.now in
    let last : AreLastRows (placed 0 networks) rows = λ row. (
      λ d. (told.1 row).0 ((c.all_of.ensures.same row).0 d),
      λ is. (c.all_of.ensures.same row).1 ((told.1 row).1 is),
    ) in
    indexes_put (AreNetworkValues c.args.networks.now) (IsTableOrder networks) (map (λ (row : AnyIpCidr × ℕ). row.1) rows) c.args.out.now put.out c.args.count.now
    put.count c.put_indexes.result told.0 (rows, last, c.all_of.ensures.ascending, refl) c.put_indexes.ensures
