use Rattle.std.proofs.Common.{◌≡◌, ◌∙◌, ap, map, subst, List, ℕ}
use Rattle.std.proofs.lemmas.Result.{IfOk-weaker}
use Rattle.cidr_table.specs.model.LastRows.{AreLastRows}
use Rattle.cidr_lists.specs.PrefixOrder.{AreInOrder}
use Rattle.cidr_routes.specs.declared.lists.Row.{Row}
use Rattle.cidr_lists.proofs.prefix_lists.in_order.Goals as goal

pub returns : goal.returns
returns g c =
    let kept = c.keep_last.new.rows.items in
    IfOk-weaker c.plain_rows.result (λ out. out.items ≡ map (λ (row : ℕ × Row g.row.C.Denot). row.1) c.as_slice.result.now) (λ out. AreInOrder c.args.rows.now out.items)
    (λ out same. (
      kept,
      c.in_ok-keep_last.ensures.ascending,
      subst (λ (l : List (ℕ × Row g.row.C.Denot)). AreLastRows l kept) c.in_ok-numbered.ensures c.in_ok-keep_last.ensures.last,
      same ∙ ap (map (λ (row : ℕ × Row g.row.C.Denot). row.1)) c.as_slice.ensures.value,
    )) c.plain_rows.ensures
