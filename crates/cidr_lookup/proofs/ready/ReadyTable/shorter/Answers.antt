use Rattle.std.proofs.Common.{◌∙◌, sym, ap, arith, List, slice_get}
use Rattle.cidr_table.specs.model.FiniteMap.{StoredRows}
use Rattle.cidr_lookup.proofs.Networks.{row_no_longer}
use Rattle.cidr_lookup.proofs.ready.ReadyTable.shorter.Goals as goal

pub returns-then-len : goal.returns-then-len
returns-then-len g c =
    let rows : StoredRows g.row.C.Denot g.row.V.Denot → List (g.row.C.Denot × g.row.V.Denot) = λ t. t.rows in
    row_no_longer g.C.Number.Address.width g.C.BitString.bits (g.C.BitString.bits c.args.asked.now) c.args.self.now.rows c.args.index c.in-Some.row.now c.requires
    (sym (c.in-Some.ensures.row ∙ ap (λ (xs : List (g.row.C.Denot × g.row.V.Denot)). slice_get xs c.args.index) (ap rows c.self.view_is)))
    (omega (arith, c.len.ensures.value, c.len-in-Some.ensures.value))
