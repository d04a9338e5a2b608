use Rattle.std.proofs.Common.{sym, ◌∙◌}
use Rattle.std.proofs.lemmas.List.{with_items_is}
use Rattle.cidr_table.specs.model.Writing.{CallLeaves}
use Rattle.cidr_table.proofs.InTurn.{keys_same, length_same}
use Rattle.cidr_table.proofs.table.LpmTable.for_each_mut.Goals as goal

pub invariant_of-self : goal.invariant_of-self
invariant_of-self g c =
    let rows = c.self.inside.rows in
    let new = c.write_each.new.rows in
    let written = rw c.deref_mut.ensures.value at c.write_each.ensures in
    let is = with_items_is rows new (length_same (CallLeaves g.F.FnMut.steps) c.args.write rows.items new written ∙ sym rows.ok.0) in
    rw (is, keys_same (CallLeaves g.F.FnMut.steps) c.args.write rows.items new written) c.self.invariant

pub returns-clause-rows : goal.returns-clause-rows
returns-clause-rows g c =
    let rows = c.self.inside.rows in
    let new = c.write_each.new.rows in
    let written = rw c.deref_mut.ensures.value at c.write_each.ensures in
    rw (with_items_is rows new (length_same (CallLeaves g.F.FnMut.steps) c.args.write rows.items new written ∙ sym rows.ok.0), sym c.self.view_is) written

pub returns-clause-sorted : goal.returns-clause-sorted
returns-clause-sorted g c = invariant_of-self g c
