use Rattle.std.proofs.Common.{◌≡◌, ◌≢◌, refl, sym, ◌∙◌, subst, true≢false}
use Rattle.std.specs.List.{All}
use Rattle.std.proofs.lemmas.List.{take_all}
use Rattle.std.proofs.lemmas.List.Elements.{All-more}
use Rattle.std.proofs.lemmas.Slice.Eq.{bytes_eq-Decides}
use Rattle.cidr_lists.specs.Tables.{value_at}
use Rattle.cidr_lists.specs.declared.rows.Span.{Span}
use Rattle.netset_commands.proofs.FewestTold.{none_found, value_found}
use Rattle.netset_commands.proofs.commands.smallest.has_value.Goals as goal

pub loop-row-preserved : goal.loop-row-preserved
loop-row-preserved g c =
    let P : g.row.C.Denot × Span → Type 0 = λ row. value_at c.args.all.now row.1 ≢ c.args.value.now in
    let same = bytes_eq-Decides c.value_at_span.result.now c.args.value.now in
    All-more P c.args.rows.now c.loop-row.row-index c.row-item.result c.loop-row-test.true c.loop-row.invariant
    (subst P c.row-item.is (λ is. true≢false (sym (same.1 (c.value_at_span.ensures ∙ is)) ∙ (sym c.eq.ensures ∙ c.if-eq.false))))

pub returns-then-eq : goal.returns-then-eq
returns-then-eq g c =
    let same = bytes_eq-Decides c.value_at_span.result.now c.args.value.now in
    let value : value_at c.args.all.now c.row-item.result.1 ≡ c.args.value.now = sym c.value_at_span.ensures ∙ same.0 (sym c.eq.ensures ∙ c.if-eq.true) in
    (λ _. value_found c.args.all.now c.args.value.now c.args.rows.now c.loop-row.row-index c.row-item.result c.loop-row-test.true c.row-item.is value, λ _. refl)

pub returns : goal.returns
returns g c =
    let P : g.row.C.Denot × Span → Type 0 = λ row. value_at c.args.all.now row.1 ≢ c.args.value.now in
    let others = subst (All P) (take_all c.loop-row.row-index c.args.rows.now c.loop-row-test.false) c.loop-row.invariant in
    (λ is. absurd (true≢false (sym is)), λ there. absurd (none_found c.args.all.now c.args.value.now c.args.rows.now others there))
