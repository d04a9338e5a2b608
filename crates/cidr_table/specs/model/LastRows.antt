-- Which rows count where several have the same key.
use Rattle.std.specs.Prelude.{◌≡◌, ◌≢◌, ◌↔◌, ℕ, ◌<◌, List, Contains, slice_get, Some}
use Rattle.std.specs.Map.{keys_of}

-- the row stands at this index, and its key at no later one
pub record IsLastRow {C V : Type 0} (rows : List (C × V)) (row : C × V) : Type 0 where
  pub index : ℕ
  pub here : slice_get rows index ≡ Some row
  pub last : (other : ℕ) → index < other → slice_get (keys_of rows) other ≢ Some row.0

-- of the rows of each key the last one, and no other row
abbrev pub AreLastRows : {C V : Type 0} → List (C × V) → List (C × V) → Type 0
AreLastRows {C} {V} rows kept = (row : C × V) → Contains kept row ↔ IsLastRow rows row
