use Rattle.std.proofs.Common.{◌∙◌, sym, ap, subst, List, Option, Some, slice_get}
use Rattle.cidr_table.specs.model.FiniteMap.{StoredRows}
use Rattle.cidr_table.specs.model.Prefixes.{IsLookedUp}
use Rattle.cidr_lookup.proofs.Networks.{row_found}
use Rattle.cidr_lookup.proofs.ready.ReadyTable.lookup.Goals as goal

pub returns : goal.returns
returns g c =
    let rows : StoredRows g.row.C.Denot g.row.V.Denot → List (g.row.C.Denot × g.row.V.Denot) = λ t. t.rows in
    let asked = g.C.BitString.bits c.args.asked.now in
    subst (λ (row : Option (g.row.C.Denot × g.row.V.Denot)). IsLookedUp g.C.BitString.bits asked c.args.self.now.rows row)
    (sym (c.row.ensures.row ∙ ap (λ (xs : List (g.row.C.Denot × g.row.V.Denot)). slice_get xs c.in_ok-index.index) (ap rows c.self.view_is)))
    (row_found g.C.Number.Address.width g.C.BitString.bits asked c.args.self.now.rows (Some c.in_ok-index.index) c.in_ok-index.ensures)
