use Rattle.std.proofs.Common.{◌≡◌, ℕ, [], ◌∷◌, ◌++◌, List, map, ap, ◌∙◌, get_or, subst, arith}
use Rattle.std.proofs.lemmas.List.{take_all}
use Rattle.cidr.specs.declared.cidr.any.AnyIpCidr.{AnyIpCidr}
use Rattle.cidr_table.specs.model.LastRows.{AreLastRows}
use Rattle.cidr_c.specs.model.Forwarding.{AreRowValues, IsRowValue, network_row}
use Rattle.cidr_c.specs.declared.forwarding.CRow.{CRow}
use Rattle.cidr_c.proofs.NetworkLists.{item_more}
use Rattle.cidr_c.proofs.Forwarded.{rows_fit}
use Rattle.cidr_c.proofs.forwarding.table_of.Goals as goal

pub loop-row-preserved : goal.loop-row-preserved
loop-row-preserved c =
    let told = c.in-Some.ensures in
    let l = c.loop-row in
    let none : CRow = record { network = record { high = 0; low = 0; tag = 0; zero_17 = 0; zero_18 = 0; zero_20 = 0 }; value = 0 } in
    let r = get_or c.args.rows.now l.row-index none in
    let more =
    item_more IsRowValue network_row c.args.rows.now l.row-index none l.listed.items c.loop-row-test.true l.invariant.0 l.invariant.1 told.0 in
    (more.0, c.in-Ok-push.ensures.items ∙ (ap (λ (n : AnyIpCidr). l.listed.items ++ (n, r.value) ∷ []) told.1 ∙ more.1))

pub returns : goal.returns
returns c =
    let l = c.loop-row in
    let rows = c.args.rows.now in
    let whole = take_all l.row-index rows (omega (arith, c.loop-row-test.false)) in
    let fine : AreRowValues rows = subst AreRowValues whole l.invariant.0 in
    let all : l.listed.items ≡ map network_row rows = l.invariant.1 ∙ ap (map network_row) whole in
    let last = subst (λ (xs : List (AnyIpCidr × ℕ)). AreLastRows xs c.from_rows.result.rows) all c.from_rows.ensures.rows in
    (fine, last, rows_fit rows c.from_rows.result.rows fine last)
