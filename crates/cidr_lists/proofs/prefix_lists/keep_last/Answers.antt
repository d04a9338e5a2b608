-- Of the rows of each number the last stays.
use Rattle.std.proofs.Common.{cond, sym, ap₂, ◌∙◌, ℕ, rules, eqb}
use Rattle.std.proofs.lemmas.Cmp.{nat_cmp_total}
use Rattle.std.proofs.lemmas.List.Sorted.{answers_always}
use Rattle.std.specs.Cmp.{unsigned_ties}
use Rattle.std.specs.FinMap.{nat_cmp-IsAntisymmetric}
use Rattle.std.specs.Ordering.{nat_cmp}
use Rattle.cidr_routes.specs.declared.lists.Row.{Row}
use Rattle.cidr_table.proofs.LastRows.{last_of_kept, left_last}
use Rattle.cidr_table.proofs.StableRows.{sort_ascends, sort_keeps}
use Rattle.cidr_lists.proofs.prefix_lists.keep_last.Goals as goal

pub returns : goal.returns
returns g c =
    let sorted = c.sort_by_key.new.self.items in
    let left = left_last nat_cmp nat_cmp_total nat_cmp-IsAntisymmetric eqb unsigned_ties
    _ (λ s x k b t x' k' h. let m = h.called.met in (
      m.0 ∙ ap₂ (λ (y z : ℕ × Row g.row.C.Denot). eqb y.0 z.0) h.shows.0 h.shows.1,
      sym h.leaves.0 ∙ m.1.0 ∙ ap₂ (λ (y z : ℕ × Row g.row.C.Denot). cond b z y) h.shows.0 h.shows.1,
      sym h.leaves.1 ∙ m.1.1 ∙ ap₂ (λ (y z : ℕ × Row g.row.C.Denot). cond b y z) h.shows.0 h.shows.1,
    )) tt sorted c.dedup_by.new.self.items
    (sort_ascends nat_cmp nat_cmp_total sorted (c.in_ok-sort_by_key.ensures.sorted (λ row. row.0) (answers_always _ _ _ (λ f a r q k. search rules))))
    c.dedup_by.ensures.filtered in
    record {
      ascending = left.0;
      last = last_of_kept nat_cmp nat_cmp_total nat_cmp-IsAntisymmetric c.args.rows.now.items sorted c.dedup_by.new.self.items
          (sort_keeps nat_cmp nat_cmp_total nat_cmp-IsAntisymmetric c.args.rows.now.items sorted
          (c.in_ok-sort_by_key.ensures.stable (λ row. row.0) (answers_always _ _ _ (λ f a r q k. search rules))))
          left.1;
    }
