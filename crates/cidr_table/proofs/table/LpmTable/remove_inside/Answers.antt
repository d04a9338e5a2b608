use Rattle.std.proofs.Common.{rules, of_calls, ap, not}
use Rattle.std.proofs.lemmas.Fn.{filter_same}
use Rattle.cidr_table.specs.internal.Places.{begins_with}
use Rattle.cidr_table.proofs.Matching.{sorted_kept, are_outside}
use Rattle.cidr_table.proofs.table.LpmTable.remove_inside.Goals as goal

pub invariant_of-self : goal.invariant_of-self
invariant_of-self g c = sorted_kept g.C.Ord.cmp _ _ c.self.inside.rows.items c.retain.new.self.items c.retain.ensures.filtered c.self.invariant

pub returns-clause-sorted : goal.returns-clause-sorted
returns-clause-sorted g c = invariant_of-self g c

pub returns-clause-rows : goal.returns-clause-rows
returns-clause-rows g c =
    let outer = g.C.BitString.bits c.args.outer.now in
    let kept = filter_same _ (λ (row : g.row.C.Denot × g.row.V.Denot). not (begins_with (g.C.BitString.bits row.0) outer)) _ (λ x b f h. search (rules, of_calls))
    c.self.inside.rows.items c.retain.new.self.items c.retain.ensures.filtered in
    rw (kept, ap (λ t. t.rows) c.self.view_is) (are_outside g.C.BitString.bits outer c.args.self.now.rows)
