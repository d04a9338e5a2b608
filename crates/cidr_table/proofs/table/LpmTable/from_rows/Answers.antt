-- The sort leaves the rows of each key in their order.
use Rattle.cidr_table.proofs.Beginnings.{cmp_exact}
use Rattle.cidr_table.proofs.LastRows.{last_of_kept}
use Rattle.cidr_table.proofs.Whole.{last_all}
use Rattle.cidr_table.proofs.table.LpmTable.from_rows.Goals as goal

pub returns-clause-rows : goal.returns-clause-rows
returns-clause-rows g c =
    let exact = cmp_exact g.C.Ord.cmp g.C.BitString.bits g.met.C.NetworkBits.ordered g.met.C.NetworkBits.determined in
    last_of_kept g.C.Ord.cmp g.met.C.Ord.total exact c.args.rows.items c.sort_rows.new.rows.items c.keep_last.new.rows.items
    c.sort_rows.ensures.kept c.keep_last.ensures.last

pub returns-clause-whole : goal.returns-clause-whole
returns-clause-whole g c ascends =
    last_all g.C.Ord.cmp g.met.C.Ord.total c.args.rows.items c.keep_last.new.rows.items (returns-clause-rows g c) ascends c.keep_last.ensures.sorted
