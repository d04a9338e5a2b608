-- Rows with another value at an index.
use Rattle.std.proofs.Common.{◌≡◌, ◌<◌, refl, sym, ap, arith, ℕ, zero, suc, List, [], ◌∷◌, length, get_or, set, slice_get, Bool, Option, Some, None, unwrap_or}
use Rattle.std.specs.Map.{keys_of, values_of}
use Rattle.std.specs.Option.{option_map, OnSome, IfSome}
use Rattle.cidr_table.specs.model.FiniteMap.{IsUnder, StoredRows}
use Rattle.cidr_table.specs.model.Prefixes.{IsLongestRow, IsValueLookedUp}
use Rattle.cidr_table.specs.model.Lends.{IsWrittenUnder, IsWrittenInLongest, IsWrittenAt}
use Rattle.cidr_table.specs.internal.LentRows.{with_value_at}
use Rattle.cidr_table.proofs.MapLaws.{contains_key}

module _ {C V : Type 0} where
  pub keys_kept : (rows : List (C × V)) (i : ℕ) (w : V) → keys_of (with_value_at rows i w) ≡ keys_of rows
  keys_kept [] i w = refl
  keys_kept (e ∷ rows) zero w = refl
  keys_kept (e ∷ rows) (suc i) w = ap (λ keys. e.0 ∷ keys) (keys_kept rows i w)

  values_set : (rows : List (C × V)) (i : ℕ) (w : V) → values_of (with_value_at rows i w) ≡ set (values_of rows) i w
  values_set [] i w = refl
  values_set (e ∷ rows) zero w = refl
  values_set (e ∷ rows) (suc i) w = ap (λ values. e.1 ∷ values) (values_set rows i w)

  pub written_at : (old : StoredRows C V) (i : ℕ) (w : V) → IsWrittenAt old i w (record { rows = with_value_at old.rows i w; capacity = old.capacity })
  written_at old i w = record { keys = keys_kept old.rows i w; values = values_set old.rows i w; capacity = refl }

  -- a row set with its key and another value
  pub set_value : (rows : List (C × V)) (i : ℕ) (row : C × V) (w : V) → i < length rows → row ≡ get_or rows i row
      → set rows i (row.0, w) ≡ with_value_at rows i w
  set_value [] i row w l e = absurd (omega arith)
  set_value (x ∷ rows) zero row w l e = ap (λ (y : C × V). (y.0, w) ∷ rows) e
  set_value (x ∷ rows) (suc i) row w l e = ap (λ ys. x ∷ ys) (set_value rows i row w (omega arith) e)

  pub value_at : (rows : List (C × V)) (i : ℕ) (row : C × V) → i < length rows → row ≡ get_or rows i row
      → slice_get (values_of rows) i ≡ Some row.1
  value_at [] i row l e = absurd (omega arith)
  value_at (x ∷ rows) zero row l e = ap (λ (y : C × V). Some y.1) (sym e)
  value_at (x ∷ rows) (suc i) row l e = value_at rows i row (omega arith) e

  pub value_there : (rows : List (C × V)) (i : ℕ) (row : C × V) → slice_get (values_of rows) i ≡ Some row.1 → (get_or rows i row).1 ≡ row.1
  value_there [] i row h = refl
  value_there (x ∷ rows) zero row h = ap (λ o. unwrap_or o row.1) h
  value_there (x ∷ rows) (suc i) row h = value_there rows i row h

  -- the value under the key of the longest match is that of its row
  pub longest_under : (bits : C → List Bool) (asked : List Bool) (rows : List (C × V)) (row : C × V) (value : V) → IsLongestRow bits asked rows row → IsUnder rows row.0 (Some value)
      → IsLongestRow bits asked rows (row.0, value)
  longest_under bits asked rows row value h u = record { here = u; begins = h.begins; longest = h.longest }

  -- and that is that which is looked up
  pub longest_value : (bits : C → List Bool) (asked : List Bool) (rows : List (C × V)) (row : C × V) (value : Option V) → IsLongestRow bits asked rows row → IsUnder rows row.0 value
      → IsValueLookedUp bits asked rows value
  longest_value bits asked rows row (Some v) h u = (Some (row.0, v), longest_under bits asked rows row v h u, refl)
  longest_value bits asked rows row None h u = absurd (u (contains_key rows row h.here))

  -- a write under the key of the longest match
  pub longest_written : {X : Type 0} (bits : C → List Bool) (asked : List Bool) (old new : StoredRows C V) (row : C × V) (value : V) (now : X → V) (r : Option X)
      → IsLongestRow bits asked old.rows row → IsUnder old.rows row.0 (option_map now r) → OnSome r (IsWrittenUnder old row.0 value new)
      → IfSome r (λ lent. IsWrittenInLongest bits asked old (now lent) value new)
  longest_written bits asked old new row value now (Some lent) h u w = record { key = row.0; longest = longest_under bits asked old.rows row (now lent) h u; written = w }
  longest_written bits asked old new row value now None h u w = tt
