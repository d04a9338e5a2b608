use Rattle.std.proofs.Common.{sym, ◌∙◌, ap, subst, Some}
use Rattle.cidr_table.proofs.RowPlaces.{lookup_at, remove_at, remove_gap, sorted_remove}
use Rattle.cidr_table.proofs.MapLaws.{looked_up, removed}
use Rattle.cidr_table.specs.model.FiniteMap.{IsRemoved}
use Rattle.cidr_table.proofs.Beginnings.{cmp_exact}
use Rattle.cidr_table.proofs.table.LpmTable.remove.Goals as goal

pub returns-in-Ok-clause-sorted : goal.returns-in-Ok-clause-sorted
returns-in-Ok-clause-sorted g c =
    let at_place = remove_at g.C.Ord.cmp g.met.C.Ord.total c.args.key.now c.args.self.now.rows c.in-Ok.index c.in-Ok.ensures.sorted c.in-Ok.ensures.index in
    rw (c.remove-value.ensures.items, ap (λ t. t.rows) c.self.view_is, at_place) (sorted_remove g.C.Ord.cmp g.met.C.Ord.total c.args.key.now _ c.args.self.now.rows c.in-Ok.ensures.sorted)

pub invariant_of-self : goal.invariant_of-self
invariant_of-self g c = returns-in-Ok-clause-sorted g c

pub returns-in-Ok-clause-before : goal.returns-in-Ok-clause-before
returns-in-Ok-clause-before g c =
    let b = rw (ap (λ t. t.rows) c.self.view_is) at c.remove-value.ensures.value in
    let found = lookup_at g.C.Ord.cmp g.met.C.Ord.total c.args.key.now c.args.self.now.rows c.in-Ok.index c.remove-value.result c.in-Ok.ensures.sorted c.in-Ok.ensures.index in
    let exact = cmp_exact g.C.Ord.cmp g.C.BitString.bits g.met.C.NetworkBits.ordered g.met.C.NetworkBits.determined in
    rw (found ∙ ap (λ p. Some p.1) (sym b)) at (looked_up g.C.Ord.cmp g.met.C.Ord.total exact c.args.key.now c.args.self.now.rows)

pub returns-in-Ok-clause-after : goal.returns-in-Ok-clause-after
returns-in-Ok-clause-after g c =
    let at_place = remove_at g.C.Ord.cmp g.met.C.Ord.total c.args.key.now c.args.self.now.rows c.in-Ok.index c.in-Ok.ensures.sorted c.in-Ok.ensures.index in
    let exact = cmp_exact g.C.Ord.cmp g.C.BitString.bits g.met.C.NetworkBits.ordered g.met.C.NetworkBits.determined in
    rw (c.remove-value.ensures.items, ap (λ t. t.rows) c.self.view_is, at_place) (removed g.C.Ord.cmp g.met.C.Ord.total exact c.args.key.now c.args.self.now.rows c.in-Ok.ensures.sorted)

-- a key that is not there: nothing changes
pub returns-in-Err-clause-after : goal.returns-in-Err-clause-after
returns-in-Err-clause-after g c =
    let gap = remove_gap g.C.Ord.cmp g.met.C.Ord.total c.args.key.now c.args.self.now.rows c.in-Err.field-0 c.in-Err.ensures.index in
    let exact = cmp_exact g.C.Ord.cmp g.C.BitString.bits g.met.C.NetworkBits.ordered g.met.C.NetworkBits.determined in
    subst (IsRemoved c.args.self.now.rows c.args.key.now) (sym gap) (removed g.C.Ord.cmp g.met.C.Ord.total exact c.args.key.now c.args.self.now.rows c.in-Err.ensures.sorted)
