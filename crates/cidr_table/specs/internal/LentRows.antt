-- What the table becomes once a `&mut` to the value at an index has ended.
use Rattle.std.specs.Prelude.{ℕ, zero, suc, List, [], ◌∷◌}
use Rattle.std.specs.Borrow.{Fml, RattleType, MutBor, Lends}
use Rattle.cidr_table.specs.model.FiniteMap.{StoredRows}
use Rattle.cidr_table.specs.model.Lends.{KeyMembers, table_row}

-- the rows with this value at an index
abbrev pub with_value_at : {C V : Type 0} → List (C × V) → ℕ → V → List (C × V)
with_value_at [] index value = []
with_value_at (row ∷ rows) zero value = (row.0, value) ∷ rows
with_value_at (row ∷ rows) (suc index) value = row ∷ with_value_at rows index value

-- the row at this index has the last value written through r
abbrev pub lends_at : (C V : RattleType) → KeyMembers C.Denot → MutBor (StoredRows C.Denot V.Denot) → ℕ → MutBor V.Denot → Fml
lends_at C V key table index r =
    Lends (table_row C V key) V table r (λ value. record { rows = with_value_at table.now.rows index value; capacity = table.now.capacity })
