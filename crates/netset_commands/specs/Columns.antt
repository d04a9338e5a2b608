-- The rows of one family, as a file has them: what private functions promise.
use Rattle.std.specs.Prelude.{◌≡◌, ℕ, ◌+◌, ◌<◌, ◌≤◌, Bool, List, length, slice_index_or, slice_range}
use Rattle.std.specs.List.{sum_by}
use Rattle.cidr_files.specs.Tables.{AreOffsets}
use Rattle.cidr_lookup.specs.Keys.{key_networks}
use Rattle.cidr_lookup.specs.Rows.{numbered_rows}
use Rattle.cidr_lists.specs.Tables.{value_at}
use Rattle.cidr_lists.specs.declared.rows.Span.{Span}
use Rattle.netset_commands.specs.declared.output.compiled.Columns.{Columns}

-- how many bytes the values of rows are, which stand among those of all
abbrev pub value_bytes : {C : Type 0} → List ℕ → List (C × Span) → ℕ
value_bytes {C} all rows = sum_by (λ (row : C × Span). length (value_at all row.1)) rows

-- the networks and the values are those of the rows
pub record AreColumns {C W : Type 0} (w : ℕ) (value : W → ℕ) (bits_of : C → List Bool) (all : List ℕ) (rows : List (C × Span)) (columns : Columns W) : Type 0 where
  pub networks : key_networks value columns.keys.items ≡ numbered_rows bits_of w rows
  pub fit : (any : C × Span) (i : ℕ) → i < length rows → length (bits_of (slice_index_or rows i any).0) ≤ w
  pub offsets : AreOffsets columns.offsets.items (length rows) (length columns.values.items)
  pub values : (any : C × Span) (i : ℕ) → i < length rows
      → slice_range columns.values.items (slice_index_or columns.offsets.items i 0) (slice_index_or columns.offsets.items (i + 1) 0)
      ≡ value_at all (slice_index_or rows i any).1
  pub total : length columns.values.items ≡ value_bytes all rows
