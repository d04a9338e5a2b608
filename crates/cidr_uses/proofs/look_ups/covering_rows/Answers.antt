use Rattle.std.proofs.Common.{◌≡◌, List, [], ◌∷◌, ◌++◌, append_assoc, append-nil, sym, ap, ap₂, ◌∙◌, subst}
use Rattle.cidr_table.specs.model.Prefixes.{AreMatching, AreShortestFirst}
use Rattle.cidr_uses.proofs.look_ups.covering_rows.Goals as goal

pub loop-row-init : goal.loop-row-init
loop-row-init g c =
    let e : c.matches-row-items.result ≡ c.new-rows.result.items ++ c.into_iter-row-iterator.result =
    sym (ap₂ (λ (x y : List (g.row.C.Denot × g.row.V.Denot)). x ++ y) c.new-rows.ensures.items c.into_iter-row-iterator.ensures.into_iter_gives) in
    (tt, tt, subst (λ l. AreMatching g.C.BitString.bits (g.C.BitString.bits c.args.asked.now) c.args.routes.now.rows l) e c.matches-row-items.ensures.rows, subst (λ l. AreShortestFirst g.C.BitString.bits l) e c.matches-row-items.ensures.shortest_first)

pub loop-row-preserved : goal.loop-row-preserved
loop-row-preserved g c =
    let e : c.loop-row.rows.items ++ c.loop-row.row-iterator ≡ c.push.new.self.items ++ c.next.new.self =
    ap (λ (t : List (g.row.C.Denot × g.row.V.Denot)). c.loop-row.rows.items ++ t) c.in-Some.ensures.steps
    ∙ sym (ap (λ (t : List (g.row.C.Denot × g.row.V.Denot)). t ++ c.next.new.self) c.in_ok-push.ensures.items ∙ append_assoc c.loop-row.rows.items (c.in-Some.row.now ∷ []) c.next.new.self) in
    (tt, tt, subst (λ l. AreMatching g.C.BitString.bits (g.C.BitString.bits c.args.asked.now) c.args.routes.now.rows l) e c.loop-row.invariant.2, subst (λ l. AreShortestFirst g.C.BitString.bits l) e c.loop-row.invariant.3)

pub returns-clause-rows : goal.returns-clause-rows
returns-clause-rows g c =
    let e : c.loop-row.rows.items ++ c.loop-row.row-iterator ≡ c.loop-row.rows.items =
    ap (λ (t : List (g.row.C.Denot × g.row.V.Denot)). c.loop-row.rows.items ++ t) c.in-None.ensures.steps.0 ∙ append-nil c.loop-row.rows.items in
    subst (λ l. AreMatching g.C.BitString.bits (g.C.BitString.bits c.args.asked.now) c.args.routes.now.rows l) e c.loop-row.invariant.2

pub returns-clause-shortest_first : goal.returns-clause-shortest_first
returns-clause-shortest_first g c =
    let e : c.loop-row.rows.items ++ c.loop-row.row-iterator ≡ c.loop-row.rows.items =
    ap (λ (t : List (g.row.C.Denot × g.row.V.Denot)). c.loop-row.rows.items ++ t) c.in-None.ensures.steps.0 ∙ append-nil c.loop-row.rows.items in
    subst (λ l. AreShortestFirst g.C.BitString.bits l) e c.loop-row.invariant.3
