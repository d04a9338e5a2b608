use Rattle.std.proofs.Common.{sym}
use Rattle.cidr_table.proofs.Matching.{are_matching, are_shortest_first}
use Rattle.cidr_table.proofs.table.LpmTable.matches.Goals as goal

pub returns-clause-rows : goal.returns-clause-rows
returns-clause-rows g c = rw (sym c.ascending-rows.ensures.rows) (are_matching g.C.BitString.bits (g.C.BitString.bits c.args.asked.now) c.ascending-rows.result.now)

pub returns-clause-shortest_first : goal.returns-clause-shortest_first
returns-clause-shortest_first g c =
    are_shortest_first g.C.Ord.cmp g.C.BitString.bits g.met.C.NetworkBits.ordered (g.C.BitString.bits c.args.asked.now)
    c.ascending-rows.result.now c.ascending-rows.ensures.sorted
