-- The last of the sorted rows of each key has its greatest index.
use Rattle.cidr_table.proofs.Beginnings.{cmp_exact}
use Rattle.cidr_table.proofs.LastPlaces.{sorted_last}
use Rattle.cidr_table.proofs.table.load.of_last_places.Goals as goal

pub returns-clause-last : goal.returns-clause-last
returns-clause-last g c =
    sorted_last g.C.Ord.cmp g.met.C.Ord.total (cmp_exact g.C.Ord.cmp g.C.BitString.bits g.met.C.NetworkBits.ordered g.met.C.NetworkBits.determined)
    c.args.rows.items c.sort_unstable.new.self.items c.from_rows.result.rows c.sort_unstable.ensures.permutation c.sort_unstable.ensures.sorted c.from_rows.ensures.rows
