-- The last of each key stays.
use Rattle.std.proofs.Common.{cond, sym, ap₂, ◌∙◌}
use Rattle.cidr_table.proofs.Beginnings.{cmp_exact}
use Rattle.cidr_table.proofs.LastRows.{left_last}
use Rattle.cidr_table.proofs.table.from_rows.keep_last.Goals as goal

pub returns : goal.returns
returns g c =
    let eq = g.C.PartialEq.eq in
    let left = left_last g.C.Ord.cmp g.met.C.Ord.total (cmp_exact g.C.Ord.cmp g.C.BitString.bits g.met.C.NetworkBits.ordered g.met.C.NetworkBits.determined) eq g.met.C.Ord.matches_eq
    _ (λ s x k b t x' k' h. let m = h.called.met in (
      m.0 ∙ ap₂ (λ (y z : g.row.C.Denot × g.row.V.Denot). eq y.0 z.0) h.shows.0 h.shows.1,
      sym h.leaves.0 ∙ m.1.0 ∙ ap₂ (λ (y z : g.row.C.Denot × g.row.V.Denot). cond b z y) h.shows.0 h.shows.1,
      sym h.leaves.1 ∙ m.1.1 ∙ ap₂ (λ (y z : g.row.C.Denot × g.row.V.Denot). cond b y z) h.shows.0 h.shows.1,
    )) tt c.args.rows.now.items c.dedup_by.new.self.items c.requires c.dedup_by.ensures.filtered in
    record { sorted = left.0; last = left.1; capacity = c.dedup_by.ensures.capacity }
