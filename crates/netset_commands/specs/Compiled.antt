-- The file of look-ups that a table is compiled into. What bytes are such a file is said in `cidr_files/specs/Tables.antt`.
use Rattle.std.specs.Prelude.{◌≡◌, ◌⊎◌, ℕ, ◌^◌, ◌<◌, ◌≤◌, ◌==◌, Bool, false, List, [], ◌∷◌, length, slice_index_or}
use Rattle.std.specs.List.{sum_by}
use Rattle.cidr.specs.declared.family.Family.{Family}
use Rattle.cidr.specs.declared.family.Family.TheVariants.{Ipv4, Ipv6}
use Rattle.cidr_files.specs.Layout.{ipv4_counts, ipv4_parts, ipv6_counts, ipv6_parts, wide_words, words}
use Rattle.cidr_files.specs.Tables.{IsFile, IsSmall, stored_networks, value_in}
use Rattle.cidr_lookup.specs.Keys.{prefix_bits}
use Rattle.cidr_lookup.specs.Rows.{numbered_rows}
use Rattle.cidr_lookup.specs.Tables.{HasTooManyWords, ipv4_steps, ipv6_steps}
use Rattle.cidr_lists.specs.Forms.{AreFit}
use Rattle.cidr_lists.specs.Lists.{Text}
use Rattle.cidr_lists.specs.Tables.{IsTable}
use Rattle.cidr_lists.specs.declared.forms.RowForm.{RowForm}

-- the rows of a table in a file, where an address has w bits and bytes spell these numbers: each a network and its value
pub record HasTheRows (w : ℕ) (numbers : List ℕ → List ℕ) (parts : List (List ℕ)) (rows : List (List Bool × List ℕ)) : Type 0 where
  pub many : length (stored_networks numbers parts) ≡ length rows
  pub networks : (i : ℕ) → i < length rows → prefix_bits w (slice_index_or (stored_networks numbers parts) i (0, 0)) ≡ (slice_index_or rows i ([], [])).0
  pub values : (i : ℕ) → i < length rows → value_in parts i ≡ (slice_index_or rows i ([], [])).1

-- the bytes are a file whose rows are those of the table
pub record HasTable (table : Family → List (List Bool × List ℕ)) (bytes : List ℕ) : Type 0 where
  pub file : IsFile bytes
  pub ipv4 : HasTheRows 32 words (ipv4_parts bytes) (table Ipv4)
  pub ipv6 : HasTheRows 128 wide_words (ipv6_parts bytes) (table Ipv6)

-- the same, within the limits of a check, and with as many steps as the builder of look-ups takes for so many rows
pub record IsTableFile (table : Family → List (List Bool × List ℕ)) (bytes : List ℕ) : Type 0 where
  pub has : HasTable table bytes
  pub small : IsSmall bytes
  pub ipv4_own : (ipv4_counts bytes).steps ≡ ipv4_steps (length (table Ipv4))
  pub ipv6_own : (ipv6_counts bytes).steps ≡ ipv6_steps (length (table Ipv6))

-- the rows of one family are more than a file has: 2 ^ 31 of them, values of 2 ^ 32 bytes, or look-ups of 2 ^ 30 words
abbrev pub AreTooLarge : (w padding : ℕ) → (ℕ → ℕ) → List (List Bool × List ℕ) → Type 0
AreTooLarge w padding steps rows = (2 ^ 31 ≤ length rows) ⊎ ((2 ^ 32 ≤ sum_by (λ (row : List Bool × List ℕ). length row.1) rows)
    ⊎ HasTooManyWords w padding (steps (length rows)) (numbered_rows (λ (p : List Bool). p) w rows))

-- the table is too large for a file: one of its families is
abbrev pub IsTooLarge : (Family → List (List Bool × List ℕ)) → Type 0
IsTooLarge table = AreTooLarge 32 4 ipv4_steps (table Ipv4) ⊎ AreTooLarge 128 2 ipv6_steps (table Ipv6)

-- ---- a file in the place of a table
-- the first byte is that of a file of look-ups, 89 in base sixteen, with which no UTF-8 text begins
abbrev pub begins_file : List ℕ → Bool
begins_file [] = false
begins_file (byte ∷ bytes) = byte == 137

-- what a file says as a table: the rows of its lines, or those of a file of look-ups
abbrev pub SaysTable : RowForm → Text → (Family → List (List Bool × List ℕ)) → Type 0
SaysTable form text table = IsTable form text table ⊎ (HasTable table text.bytes × ((family : Family) → AreFit form.values (table family)))
