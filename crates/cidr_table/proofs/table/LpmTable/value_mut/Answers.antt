use Rattle.std.proofs.Common.{refl, sym, arith}
use Rattle.std.proofs.lemmas.List.{length-map}
use Rattle.std.proofs.lemmas.Option.{slice_get_past}
use Rattle.std.specs.Map.{values_of}
use Rattle.cidr_table.proofs.Writes.{written_at}
use Rattle.cidr_table.proofs.table.LpmTable.value_mut.Goals as goal

pub returns-then-index-len : goal.returns-then-index-len
returns-then-index-len g c = (
  (refl, λ w. written_at c.args.self.now c.args.index w, refl),
  record { writes_back = tt; value = sym c.value_at.ensures.value },
)

pub returns-else-index-len : goal.returns-else-index-len
returns-else-index-len g c =
    let rows = c.args.self.now.rows in
    let past = slice_get_past (values_of rows) c.args.index (omega (arith, c.if-index-len.false, c.len.ensures, length-map rows (λ (x : g.row.C.Denot × g.row.V.Denot). x.1))) in (
      (refl, λ w. tt, refl),
      record { writes_back = tt; value = sym past },
    )
