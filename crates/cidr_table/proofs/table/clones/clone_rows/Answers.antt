use Rattle.std.proofs.Common.{◌≡◌, refl, subst, arith, take}
use Rattle.std.proofs.lemmas.List.{take_all}
use Rattle.std.proofs.lemmas.List.Elements.{all_zip_more}
use Rattle.cidr_table.specs.model.FiniteMap.{AreCloned}
use Rattle.cidr_table.proofs.table.clones.clone_rows.Goals as goal

-- one row more
pub loop-row-preserved : goal.loop-row-preserved
loop-row-preserved g c =
    rw c.in_ok-push.ensures.items (all_zip_more _ c.args.rows.now c.loop-row.copy.items c.loop-row.row-index c.row-item.result (c.row-item.result.0, c.in_ok-value.value)
    c.loop-row-test.true c.row-item.is c.loop-row.invariant (refl, c.in_ok-value.ensures.cases))

pub returns : goal.returns
returns g c =
    let rows = c.args.rows.now in
    let all : take c.loop-row.row-index rows ≡ rows = take_all c.loop-row.row-index rows (omega (arith, c.loop-row-test.false)) in
    subst (λ t. AreCloned g.V.Clone.is_clone t c.loop-row.copy.items) all c.loop-row.invariant
