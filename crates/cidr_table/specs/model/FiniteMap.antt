-- The rows of a table as a finite map from networks to values.
use Rattle.std.specs.Prelude.{◌≡◌, ◌≢◌, ◌↔◌, ◌⊎◌, ℕ, List, Contains, Option, Some, None}
use Rattle.std.specs.List.{AllZip}
use Rattle.std.specs.Map.{keys_of}

module _ {C V : Type 0} where
  -- what the map has under a key: a value, or nothing
  abbrev pub IsUnder : List (C × V) → C → Option V → Type 0
  IsUnder rows key (Some value) = Contains rows (key, value)
  IsUnder rows key None = ¬ (Contains (keys_of rows) key)

  -- the map with this value under the key, and under each other key what the old one has
  abbrev pub IsInserted : List (C × V) → C → V → List (C × V) → Type 0
  IsInserted old key value new = (row : C × V) → Contains new row ↔ ((row ≡ (key, value)) ⊎ ((row.0 ≢ key) × Contains old row))

  -- the map with nothing under the key, and under each other key what the old one has
  abbrev pub IsRemoved : List (C × V) → C → List (C × V) → Type 0
  IsRemoved old key new = (row : C × V) → Contains new row ↔ ((row.0 ≢ key) × Contains old row)

  -- the same keys in the same order, each with a clone of its value
  abbrev pub AreCloned : (V → V → Type 0) → List (C × V) → List (C × V) → Type 0
  AreCloned is_clone rows copy = AllZip (λ (row : C × V) (same : C × V). (same.0 ≡ row.0) × is_clone row.1 same.1) rows copy

-- what a table holds: its rows, and how many rows it has room for before it allocates
pub record StoredRows (C V : Type 0) : Type 0 where
  pub rows : List (C × V)
  pub capacity : ℕ

-- what a probe shows: the rows that it compares with, and how many comparisons it has made
pub record ProbedRows (C V : Type 0) : Type 0 where
  pub rows : List (C × V)
  pub comparisons : ℕ
