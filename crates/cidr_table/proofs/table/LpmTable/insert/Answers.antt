use Rattle.std.proofs.Common.{sym, ◌∙◌, ap, Some, length, arith}
use Rattle.cidr_table.proofs.RowPlaces.{lookup_at, set_at, insert_gap, sorted_insert}
use Rattle.cidr_table.proofs.MapLaws.{looked_up, inserted}
use Rattle.cidr_table.proofs.Absent.{not_held}
use Rattle.cidr_table.proofs.Beginnings.{cmp_exact}
use Rattle.cidr_table.proofs.table.LpmTable.insert.Goals as goal

pub index_mut-row-requires : goal.index_mut-row-requires
index_mut-row-requires g c = omega (arith, c.in-Ok.ensures.index.within, ap (λ t. length t.rows) c.self.view_is)

pub insert-requires : goal.insert-requires
insert-requires g c = omega (arith, c.in-Err.ensures.index.within, ap (λ t. length t.rows) c.self.view_is)

-- a key that is there: its row takes the value
pub returns-in-Ok-clause-sorted : goal.returns-in-Ok-clause-sorted
returns-in-Ok-clause-sorted g c =
    let b = rw (ap (λ t. t.rows) c.self.view_is) at c.index_mut-row.ensures.value in
    let row = c.index_mut-row.result.now in
    let set = set_at g.C.Ord.cmp g.met.C.Ord.total c.args.key c.args.self.now.rows c.in-Ok.index c.args.value row.0 row c.in-Ok.ensures.sorted c.in-Ok.ensures.index (ap (λ q. q.0) b) in
    rw (ap (λ t. t.rows) c.self.view_is, c.replace.ensures.after, set) (sorted_insert g.C.Ord.cmp g.met.C.Ord.total c.args.key c.args.self.now.rows c.args.value c.in-Ok.ensures.sorted)

pub invariant_of-self : goal.invariant_of-self
invariant_of-self g c = returns-in-Ok-clause-sorted g c

pub returns-in-Ok-clause-before : goal.returns-in-Ok-clause-before
returns-in-Ok-clause-before g c =
    let b = rw (ap (λ t. t.rows) c.self.view_is) at c.index_mut-row.ensures.value in
    let found = lookup_at g.C.Ord.cmp g.met.C.Ord.total c.args.key c.args.self.now.rows c.in-Ok.index c.index_mut-row.result.now c.in-Ok.ensures.sorted c.in-Ok.ensures.index in
    let exact = cmp_exact g.C.Ord.cmp g.C.BitString.bits g.met.C.NetworkBits.ordered g.met.C.NetworkBits.determined in
    rw c.replace.ensures.value (rw (found ∙ ap (λ p. Some p.1) (sym b)) at (looked_up g.C.Ord.cmp g.met.C.Ord.total exact c.args.key c.args.self.now.rows))

pub returns-in-Ok-clause-ok : goal.returns-in-Ok-clause-ok
returns-in-Ok-clause-ok g c =
    let b = rw (ap (λ t. t.rows) c.self.view_is) at c.index_mut-row.ensures.value in
    let row = c.index_mut-row.result.now in
    let set = set_at g.C.Ord.cmp g.met.C.Ord.total c.args.key c.args.self.now.rows c.in-Ok.index c.args.value row.0 row c.in-Ok.ensures.sorted c.in-Ok.ensures.index (ap (λ q. q.0) b) in
    let exact = cmp_exact g.C.Ord.cmp g.C.BitString.bits g.met.C.NetworkBits.ordered g.met.C.NetworkBits.determined in
    rw (ap (λ t. t.rows) c.self.view_is, c.replace.ensures.after, set) (inserted g.C.Ord.cmp g.met.C.Ord.total exact c.args.key c.args.self.now.rows c.args.value c.in-Ok.ensures.sorted)

pub returns-in-Ok-clause-kept : goal.returns-in-Ok-clause-kept
returns-in-Ok-clause-kept g c = λ there. ap (λ t. t.capacity) c.self.view_is

pub returns-in-Ok-clause-enough : goal.returns-in-Ok-clause-enough
returns-in-Ok-clause-enough g c = λ room. ap (λ t. t.capacity) c.self.view_is

pub returns-in-Ok-clause-capacity : goal.returns-in-Ok-clause-capacity
returns-in-Ok-clause-capacity g c = omega (arith, ap (λ t. t.capacity) c.self.view_is)

-- no memory for a new key: nothing changes
pub returns-in-Err-insert-clause-unchanged : goal.returns-in-Err-insert-clause-unchanged
returns-in-Err-insert-clause-unchanged g c = c.in-Err-insert.ensures.items ∙ ap (λ t. t.rows) c.self.view_is

pub returns-in-Err-insert-clause-sorted : goal.returns-in-Err-insert-clause-sorted
returns-in-Err-insert-clause-sorted g c = rw (returns-in-Err-insert-clause-unchanged g c) c.in-Err.ensures.sorted

pub invariant_of-self-in-Err-insert : goal.invariant_of-self-in-Err-insert
invariant_of-self-in-Err-insert g c = returns-in-Err-insert-clause-sorted g c

pub returns-in-Err-insert-clause-err : goal.returns-in-Err-insert-clause-err
returns-in-Err-insert-clause-err g c = c.in-Err-insert.ensures.value_returned

pub returns-in-Err-insert-clause-present : goal.returns-in-Err-insert-clause-present
returns-in-Err-insert-clause-present g c = λ there. absurd (not_held g.C.Ord.cmp g.met.C.Ord.total (cmp_exact g.C.Ord.cmp g.C.BitString.bits g.met.C.NetworkBits.ordered g.met.C.NetworkBits.determined) c.args.key c.args.self.now.rows c.in-Err.index c.in-Err.ensures.index there)

pub returns-in-Err-insert-clause-kept : goal.returns-in-Err-insert-clause-kept
returns-in-Err-insert-clause-kept g c = λ there. absurd (not_held g.C.Ord.cmp g.met.C.Ord.total (cmp_exact g.C.Ord.cmp g.C.BitString.bits g.met.C.NetworkBits.ordered g.met.C.NetworkBits.determined) c.args.key c.args.self.now.rows c.in-Err.index c.in-Err.ensures.index there)

pub returns-in-Err-insert-clause-room : goal.returns-in-Err-insert-clause-room
returns-in-Err-insert-clause-room g c = λ room. absurd (omega (arith, c.in-Err-insert.ensures.full, ap (λ t. length t.rows) c.self.view_is, ap (λ t. t.capacity) c.self.view_is))

pub returns-in-Err-insert-clause-enough : goal.returns-in-Err-insert-clause-enough
returns-in-Err-insert-clause-enough g c = λ room. absurd (omega (arith, c.in-Err-insert.ensures.full, ap (λ t. length t.rows) c.self.view_is, ap (λ t. t.capacity) c.self.view_is))

pub returns-in-Err-insert-clause-capacity : goal.returns-in-Err-insert-clause-capacity
returns-in-Err-insert-clause-capacity g c = omega (arith, c.in-Err-insert.ensures.capacity, ap (λ t. t.capacity) c.self.view_is)

-- a new key: its row goes to its place
pub returns-in_default-clause-before : goal.returns-in_default-clause-before
returns-in_default-clause-before g c = not_held g.C.Ord.cmp g.met.C.Ord.total (cmp_exact g.C.Ord.cmp g.C.BitString.bits g.met.C.NetworkBits.ordered g.met.C.NetworkBits.determined) c.args.key c.args.self.now.rows c.in-Err.index c.in-Err.ensures.index

pub returns-in_default-clause-kept : goal.returns-in_default-clause-kept
returns-in_default-clause-kept g c = λ there. absurd (returns-in_default-clause-before g c there)

pub returns-in_default-clause-enough : goal.returns-in_default-clause-enough
returns-in_default-clause-enough g c = λ room.
    let same = c.in_default.ensures.in_place (omega (arith, ap (λ t. length t.rows) c.self.view_is, ap (λ t. t.capacity) c.self.view_is)) in
    same.1.0 ∙ ap (λ t. t.capacity) c.self.view_is

pub returns-in_default-clause-capacity : goal.returns-in_default-clause-capacity
returns-in_default-clause-capacity g c = omega (arith, c.in_default.ensures.capacity, ap (λ t. t.capacity) c.self.view_is)

pub returns-in_default-clause-sorted : goal.returns-in_default-clause-sorted
returns-in_default-clause-sorted g c =
    let gap = insert_gap g.C.Ord.cmp g.met.C.Ord.total c.args.key c.args.self.now.rows c.in-Err.index c.args.value c.in-Err.ensures.index in
    rw (c.in_default.ensures.items, ap (λ t. t.rows) c.self.view_is, gap) (sorted_insert g.C.Ord.cmp g.met.C.Ord.total c.args.key c.args.self.now.rows c.args.value c.in-Err.ensures.sorted)

pub invariant_of-self-in-Err : goal.invariant_of-self-in-Err
invariant_of-self-in-Err g c = returns-in_default-clause-sorted g c

pub returns-in_default-clause-ok : goal.returns-in_default-clause-ok
returns-in_default-clause-ok g c =
    let gap = insert_gap g.C.Ord.cmp g.met.C.Ord.total c.args.key c.args.self.now.rows c.in-Err.index c.args.value c.in-Err.ensures.index in
    let exact = cmp_exact g.C.Ord.cmp g.C.BitString.bits g.met.C.NetworkBits.ordered g.met.C.NetworkBits.determined in
    rw (c.in_default.ensures.items, ap (λ t. t.rows) c.self.view_is, gap) (inserted g.C.Ord.cmp g.met.C.Ord.total exact c.args.key c.args.self.now.rows c.args.value c.in-Err.ensures.sorted)
