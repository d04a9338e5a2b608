use Rattle.std.proofs.Common.{ℕ, List, length, map, subst, sym}
use Rattle.std.specs.List.Sorted.{IsPermutation}
use Rattle.cidr.specs.either.IpNetwork.{any_bits}
use Rattle.cidr.specs.declared.cidr.any.AnyIpCidr.{AnyIpCidr}
use Rattle.cidr_table.specs.model.Loading.{placed}
use Rattle.cidr_lists.specs.Nearness.{AreRowsInOrder}
use Rattle.cidr_c.specs.Nested.{AreOuters}
use Rattle.cidr_c.specs.model.Values.{network_in}
use Rattle.cidr_c.proofs.Indexes.{listed_rows}
use Rattle.cidr_c.proofs.nested.nested_rows.Goals as goal

pub outers_of-requires : goal.outers_of-requires
outers_of-requires c = subst (AreRowsInOrder any_bits) (sym c.as_slice.ensures.value) c.sorted-rows.ensures.ascending

pub returns-in-Ok : goal.returns-in-Ok
returns-in-Ok c =
    let networks : List AnyIpCidr = map network_in c.args.values.now in
    let told = c.in_ok-listed.ensures in
    let rows = c.sorted-rows.result.items in
    let moved : IsPermutation (placed 0 networks) rows =
    subst (λ (l : List (AnyIpCidr × ℕ)). IsPermutation l rows) told.1 c.sorted-rows.ensures.same in (
      told.0,
      record {
        rows = listed_rows networks rows moved;
        ordered = c.sorted-rows.ensures.ascending;
        outers = subst (λ (l : List (AnyIpCidr × ℕ)). AreOuters any_bits l c.in-Ok.outers.items (length l)) c.as_slice.ensures.value c.in-Ok.ensures;
      },
    )
