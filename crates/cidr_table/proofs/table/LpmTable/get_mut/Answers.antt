use Rattle.std.proofs.Common.{refl, ◌∙◌, ap, Some}
use Rattle.cidr_table.proofs.RowPlaces.{lookup_at, write_at}
use Rattle.cidr_table.proofs.MapLaws.{looked_up, inserted}
use Rattle.cidr_table.proofs.Beginnings.{cmp_exact}
use Rattle.cidr_table.proofs.Writes.{keys_kept, value_there}
use Rattle.cidr_table.proofs.table.LpmTable.get_mut.Goals as goal

pub returns-in-Ok : goal.returns-in-Ok
returns-in-Ok g c =
    let rows = c.args.self.now.rows in
    let k = c.args.key.now in
    let i = c.in-Ok.index in
    let sorted = c.find.ensures.sorted in
    let row : g.row.C.Denot × g.row.V.Denot = (k, c.value_at.result.now) in
    let found = lookup_at g.C.Ord.cmp g.met.C.Ord.total k rows i row sorted c.in-Ok.ensures.index in
    let there = value_there rows i row c.value_at.ensures.value in
    let exact = cmp_exact g.C.Ord.cmp g.C.BitString.bits g.met.C.NetworkBits.ordered g.met.C.NetworkBits.determined in (
      (
        refl,
        λ w. record {
          rows = rw (write_at g.C.Ord.cmp g.met.C.Ord.total k rows i w sorted c.in-Ok.ensures.index) (inserted g.C.Ord.cmp g.met.C.Ord.total exact k rows w sorted);
          keys = keys_kept rows i w;
          capacity = refl;
        },
        refl,
      ),
      record { writes_back = tt; value = rw (found ∙ ap Some there) at (looked_up g.C.Ord.cmp g.met.C.Ord.total exact k rows); sorted = sorted },
    )
