-- What is written in a file.
use Rattle.std.specs.Prelude.{◌≡◌, ◌⊎◌, ℕ, ◌^◌, ◌<◌, ◌≤◌, List, [], ◌∷◌, ◌++◌, length, map, ⊤}
use Rattle.std.specs.Int.{from_le_bytes, w32}
use Rattle.cidr_lookup.specs.Keys.{key_networks}
use Rattle.cidr_lookup.specs.declared.key.Key.{Key}
use Rattle.cidr_lookup.specs.Tables.{IsLookupTable, IsTableRefused, ipv4_steps, ipv6_steps}
use Rattle.cidr_lookup.specs.declared.table.LookupTable.{LookupTable}
use Rattle.cidr_lookup.specs.declared.table.TableError.TheVariants.{TooMany, NoMemory}
use Rattle.cidr_files.specs.Layout.{ipv4_counts, ipv4_parts, ipv6_counts, ipv6_parts, magic, version, wide_word}
use Rattle.cidr_files.specs.Spelling.{wide_bytes, word_bytes}
use Rattle.cidr_files.specs.Tables.{AreOffsets, stored_networks, offsets_in, part_at}
use Rattle.cidr_files.specs.Written.{joined_parts, spelled}
use Rattle.cidr_files.specs.declared.contents.Contents.{Contents}
use Rattle.cidr_files.specs.declared.contents.FileRows.{FileRows}
use Rattle.cidr_files.specs.declared.faults.WriteError.{WriteError}
use Rattle.cidr_files.specs.declared.faults.WriteError.TheVariants.{Table, Values}
use Rattle.cidr_files.specs.declared.layout.Counts.{Counts}

-- they are a table that a check takes
pub record AreContents {W : Type 0} (w padding : ℕ) (value : W → ℕ) (contents : Contents W) : Type 0 where
  pub table : IsLookupTable w padding contents.steps (key_networks value contents.rows.now.keys.now) contents.first.now contents.words.now
  pub offsets : AreOffsets contents.rows.now.offsets.now (length contents.rows.now.keys.now) (length contents.rows.now.values.now)
  pub rows : length contents.rows.now.keys.now < 2 ^ 31
  pub entries : length contents.first.now < 2 ^ 30
  pub nodes : length contents.words.now < 2 ^ 30
  pub sizes : length contents.rows.now.values.now < 2 ^ 32

-- the parts of a table have the rows
pub record HasRows {W : Type 0} (numbers : List ℕ → List ℕ) (parts : List (List ℕ)) (value : W → ℕ) (rows : FileRows W) : Type 0 where
  pub networks_are : stored_networks numbers parts ≡ key_networks value rows.keys.now
  pub offsets_are : offsets_in parts ≡ rows.offsets.now
  pub values_are : part_at parts 5 ≡ rows.values.now

-- the words of the header
abbrev pub head_of : Counts → Counts → List ℕ
head_of ipv4 ipv6 =
    magic ∷ version ∷ 0 ∷ 0
    ∷ ipv4.rows ∷ ipv4.entries ∷ ipv4.words ∷ ipv4.steps ∷ ipv4.values ∷ 0
    ∷ ipv6.rows ∷ ipv6.entries ∷ ipv6.words ∷ ipv6.steps ∷ ipv6.values ∷ 0 ∷ []

-- a file is its header and its parts, and all else in it is zeros: the words that are not read, and what is free behind a part
abbrev pub HasZerosBetween : List ℕ → Type 0
HasZerosBetween bytes =
    bytes ≡ spelled word_bytes (head_of (ipv4_counts bytes) (ipv6_counts bytes)) ++ (joined_parts (ipv4_parts bytes) ++ joined_parts (ipv6_parts bytes))

-- ---- rows that are not written
-- the values lie one behind the other, an offset for each row and one more, in fewer than 2 ^ 32 bytes
pub record AreValues {W : Type 0} (rows : FileRows W) : Type 0 where
  pub offsets : AreOffsets rows.offsets.now (length rows.keys.now) (length rows.values.now)
  pub sizes : length rows.values.now < 2 ^ 32

-- why rows are not written: too many keys; or else the values don't lie so; or else the keys have no table. Memory may be
-- refused whatever they are
abbrev pub AreRowsUnwritten : {W : Type 0} → (w padding : ℕ) → (ℕ → ℕ) → (W → ℕ) → FileRows W → WriteError → Type 0
AreRowsUnwritten w padding steps value rows (Table TooMany) = 2 ^ 31 ≤ length rows.keys.now
AreRowsUnwritten w padding steps value rows (Table NoMemory) = ⊤
AreRowsUnwritten w padding steps value rows (Table error) =
    AreValues rows × IsTableRefused w padding (steps (length rows.keys.now)) (key_networks value rows.keys.now) error
AreRowsUnwritten w padding steps value rows Values = (length rows.keys.now < 2 ^ 31) × ¬ (AreValues rows)

-- rows that have a table
pub record AreWritable {W : Type 0} (w padding : ℕ) (steps : ℕ → ℕ) (value : W → ℕ) (rows : FileRows W) : Type 0 where
  pub few : length rows.keys.now < 2 ^ 31
  pub values : AreValues rows
  pub first : List ℕ
  pub words : List ℕ
  pub table : IsLookupTable w padding (steps (length rows.keys.now)) (key_networks value rows.keys.now) first words
  pub fits : length words < 2 ^ 30

-- why no file is written: for the IPv4 rows, or else for the IPv6 rows
abbrev pub IsWriteRefused : FileRows (List ℕ) → FileRows (List (List ℕ)) → WriteError → Type 0
IsWriteRefused ipv4 ipv6 error =
    AreRowsUnwritten 32 4 ipv4_steps (from_le_bytes w32) ipv4 error
    ⊎ (AreWritable 32 4 ipv4_steps (from_le_bytes w32) ipv4 × AreRowsUnwritten 128 2 ipv6_steps wide_word ipv6 error)

-- ---- the bytes of the file of rows
abbrev pub counts_of : {W : Type 0} → Contents W → Counts
counts_of contents = record {
  rows = length contents.rows.now.keys.now;
  entries = length contents.first.now;
  words = length contents.words.now;
  steps = contents.steps;
  values = length contents.rows.now.values.now;
}

-- the numbers of the addresses of keys, and their lengths
abbrev pub key_addresses : {W : Type 0} → (W → ℕ) → List (Key W) → List ℕ
key_addresses {W} value keys = map (λ (key : Key W). value key.address) keys

abbrev pub lengths_of : {W : Type 0} → List (Key W) → List ℕ
lengths_of {W} keys = map (λ (key : Key W). key.len) keys

-- the parts of a table
abbrev pub parts_written : {W : Type 0} → (W → ℕ) → (ℕ → List ℕ) → Contents W → List (List ℕ)
parts_written {W} value bytes contents =
    spelled word_bytes contents.first.now
    ∷ spelled word_bytes contents.words.now
    ∷ spelled bytes (key_addresses value contents.rows.now.keys.now)
    ∷ lengths_of contents.rows.now.keys.now
    ∷ spelled word_bytes contents.rows.now.offsets.now
    ∷ contents.rows.now.values.now ∷ []

-- the bytes of a file
abbrev pub file_bytes : Contents (List ℕ) → Contents (List (List ℕ)) → List ℕ
file_bytes ipv4 ipv6 = spelled word_bytes (head_of (counts_of ipv4) (counts_of ipv6))
    ++ (joined_parts (parts_written (from_le_bytes w32) word_bytes ipv4) ++ joined_parts (parts_written wide_word wide_bytes ipv6))

-- those of the file of rows: each table has so many steps, so that there is one such file (`one_file` in `FileLaws`)
pub record IsFileOfRows (ipv4 : FileRows (List ℕ)) (ipv6 : FileRows (List (List ℕ))) (bytes : List ℕ) : Type 0 where
  pub ipv4_contents : Contents (List ℕ)
  pub ipv6_contents : Contents (List (List ℕ))
  pub ipv4_are : AreContents 32 4 (from_le_bytes w32) ipv4_contents
  pub ipv6_are : AreContents 128 2 wide_word ipv6_contents
  pub ipv4_rows : ipv4_contents.rows.now ≡ ipv4
  pub ipv6_rows : ipv6_contents.rows.now ≡ ipv6
  pub ipv4_own : ipv4_contents.steps ≡ ipv4_steps (length ipv4.keys.now)
  pub ipv6_own : ipv6_contents.steps ≡ ipv6_steps (length ipv6.keys.now)
  pub bytes_are : bytes ≡ file_bytes ipv4_contents ipv6_contents

-- ---- what private functions promise each other
-- what is built for rows
pub record AreTableOf {W : Type 0} (w padding : ℕ) (steps : ℕ → ℕ) (value : W → ℕ) (rows : FileRows W) (table : LookupTable) : Type 0 where
  pub table_is : IsLookupTable w padding table.steps (key_networks value rows.keys.now) table.first.items table.words.items
  pub own : table.steps ≡ steps (length rows.keys.now)
  pub offsets : AreOffsets rows.offsets.now (length rows.keys.now) (length rows.values.now)
  pub keys : length rows.keys.now < 2 ^ 31
  pub entries : length table.first.items < 2 ^ 30
  pub nodes : length table.words.items < 2 ^ 30
  pub sizes : length rows.values.now < 2 ^ 32
