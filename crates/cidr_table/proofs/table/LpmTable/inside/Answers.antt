use Rattle.std.proofs.Common.{rules, of_calls, sym, ◌≡◌, ◌-◌, arith, length, take, drop, List}
use Rattle.std.proofs.lemmas.Fn.{always_returns_same}
use Rattle.std.proofs.lemmas.List.{take_all, length-drop}
use Rattle.cidr_table.proofs.Insides.{inside_first, are_inside, sorted_range, in_outer}
use Rattle.cidr_table.proofs.table.LpmTable.inside.Goals as goal

rest_of : {X : Type 0} (i : _) (rows : List X) → take (length rows - i) (drop i rows) ≡ drop i rows
rest_of i rows = take_all (length rows - i) (drop i rows) (omega (arith, length-drop i rows))

pub returns-clause-rows : goal.returns-clause-rows
returns-clause-rows g c =
    let rows = c.ascending-rows.result.now in
    let start = c.lower_bound.result in
    let from : take (length rows - start) (drop start rows) ≡ drop start rows = rest_of start rows in
    let inner = in_outer g.C.Ord.cmp g.C.BitString.bits g.met.C.NetworkBits.ordered rows c.ascending-rows.ensures.sorted c.args.outer.now start c.lower_bound.ensures in
    let point = rw from at c.partition_point-len.ensures.partitioned inner (always_returns_same _ _ _ (λ a r f k. search (rules, of_calls))) in
    let parts = inside_first g.C.Ord.cmp g.C.BitString.bits g.met.C.NetworkBits.ordered rows c.ascending-rows.ensures.sorted c.args.outer.now start c.lower_bound.ensures in
    let found = point parts in
    let fits = rw from at c.partition_point-len.ensures.bound in
    rw (sym c.ascending-rows.ensures.rows, from) (are_inside g.C.Ord.cmp g.C.BitString.bits g.met.C.NetworkBits.ordered rows c.ascending-rows.ensures.sorted c.args.outer.now start
    c.lower_bound.ensures c.partition_point-len.result fits found.0 found.1)

pub returns-clause-sorted : goal.returns-clause-sorted
returns-clause-sorted g c =
    let rows = c.ascending-rows.result.now in
    rw (rest_of c.lower_bound.result rows) (sorted_range g.C.Ord.cmp c.lower_bound.result c.partition_point-len.result rows c.ascending-rows.ensures.sorted)
