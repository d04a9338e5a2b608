-- How `Debug` prints a table: as a map, `{10.0.0.0/8: 1, 10.1.0.0/16: 2}`.
use Rattle.std.specs.Prelude.{ℕ, List, [], Option, Some, codes}
use Rattle.std.specs.Fmt.{◌++?◌, debug_items}

module _ {C V : Type 0} (key : C → Option (List ℕ)) (value : V → Option (List ℕ)) where
  -- a key and its value, or `None` where what they print isn't told
  abbrev pub debug_row : C × V → Option (List ℕ)
  debug_row row = key row.0 ++? Some (codes ": ") ++? value row.1

  -- the rows in braces, with a comma between two
  abbrev pub debug_map : List (C × V) → Option (List ℕ)
  debug_map rows = Some (codes "{") ++? debug_items debug_row [] rows ++? Some (codes "}")
