-- What the parts of a table say: `parts` are the six of `sizes_of`, `numbers` the addresses that bytes spell, and w how
-- many bits an address has.
use Rattle.std.specs.Prelude.{◌≡◌, ℕ, ◌+◌, ◌^◌, ◌<◌, ◌≤◌, List, [], ◌∷◌, length, slice_index_or, slice_range, zip}
use Rattle.cidr_lookup.specs.Tables.{IsLookupTable}
use Rattle.cidr_files.specs.Layout.{IsLaidOut, ipv4_counts, ipv4_parts, ipv6_counts, ipv6_parts, wide_words, words}
use Rattle.cidr_files.specs.declared.layout.FileTable.{FileTable}
use Rattle.cidr_files.specs.declared.layout.FileTables.{FileTables}

-- ---- one after the other
abbrev pub part_at : List (List ℕ) → ℕ → List ℕ
part_at parts k = slice_index_or parts k []

-- the networks: an address and a prefix length each
abbrev pub stored_networks : (List ℕ → List ℕ) → List (List ℕ) → List (ℕ × ℕ)
stored_networks numbers parts = zip (numbers (part_at parts 2)) (part_at parts 3)

-- where the values begin, and last where they end
abbrev pub offsets_in : List (List ℕ) → List ℕ
offsets_in parts = words (part_at parts 4)

-- the value of a row
abbrev pub value_in : List (List ℕ) → ℕ → List ℕ
value_in parts row = slice_range (part_at parts 5) (slice_index_or (offsets_in parts) row 0) (slice_index_or (offsets_in parts) (row + 1) 0)

-- offsets of values that lie one behind the other and are `size` bytes
pub record AreOffsets (offsets : List ℕ) (rows size : ℕ) : Type 0 where
  pub many : length offsets ≡ rows + 1
  pub first : slice_index_or offsets 0 0 ≡ 0
  pub ascending : (i k : ℕ) → i ≤ k → k ≤ rows → slice_index_or offsets i 0 ≤ slice_index_or offsets k 0
  pub last : slice_index_or offsets rows 0 ≡ size

-- ---- a table
-- the words are the look-up table of the networks
abbrev pub AreLookUps : (w padding : ℕ) → (List ℕ → List ℕ) → List (List ℕ) → ℕ → Type 0
AreLookUps w padding numbers parts steps =
    IsLookupTable w padding steps (stored_networks numbers parts) (words (part_at parts 0)) (words (part_at parts 1))

-- and the values those of as many rows
pub record IsStoredTable (w padding : ℕ) (numbers : List ℕ → List ℕ) (parts : List (List ℕ)) (steps : ℕ) : Type 0 where
  pub look_ups : AreLookUps w padding numbers parts steps
  pub offsets : AreOffsets (offsets_in parts) (length (stored_networks numbers parts)) (length (part_at parts 5))

-- ---- a file
-- the bytes are a file of these tables
pub record IsFile (bytes : List ℕ) : Type 0 where
  pub laid_out : IsLaidOut bytes
  pub ipv4 : IsStoredTable 32 4 words (ipv4_parts bytes) (ipv4_counts bytes).steps
  pub ipv6 : IsStoredTable 128 2 wide_words (ipv6_parts bytes) (ipv6_counts bytes).steps

-- a table within the limits of a check
pub record HasFewWords (numbers : List ℕ → List ℕ) (parts : List (List ℕ)) : Type 0 where
  pub rows : length (stored_networks numbers parts) < 2 ^ 31
  pub entries : length (words (part_at parts 0)) < 2 ^ 30
  pub nodes : length (words (part_at parts 1)) < 2 ^ 30

-- both of them are
pub record IsSmall (bytes : List ℕ) : Type 0 where
  pub ipv4 : HasFewWords words (ipv4_parts bytes)
  pub ipv6 : HasFewWords wide_words (ipv6_parts bytes)

-- ---- the parts as a program has them
abbrev pub parts_in : FileTable → List (List ℕ)
parts_in part =
    part.first.now ∷ part.words.now ∷ part.addresses.now ∷ part.lengths.now ∷ part.offsets.now ∷ part.values.now ∷ []

-- the two tables of a file's bytes
pub record IsTableCutFrom (bytes : List ℕ) (table : FileTables) : Type 0 where
  pub ipv4 : parts_in table.ipv4 ≡ ipv4_parts bytes
  pub ipv4_steps : table.ipv4.steps ≡ (ipv4_counts bytes).steps
  pub ipv6 : parts_in table.ipv6 ≡ ipv6_parts bytes
  pub ipv6_steps : table.ipv6.steps ≡ (ipv6_counts bytes).steps
