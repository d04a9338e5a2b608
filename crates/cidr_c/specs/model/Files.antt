-- Look-up tables in files. Which bytes are a file is said in `Rattle.cidr_files.specs.Tables`, and what is wrong with others in
-- its `Faults`.
use Rattle.std.specs.Prelude.{◌≡◌, ◌≢◌, ◌⊎◌, ℕ, ◌+◌, ◌*◌, ◌<◌, ◌≤◌, nat_lt, if◌then◌else◌, List, [], ◌∷◌, drop, length, slice_get, slice_index_or, take, Contains, Some, None}
use Rattle.cidr.specs.model.Bits.{bits}
use Rattle.cidr.specs.model.Network.{BeginsWith}
use Rattle.cidr_table.specs.model.Prefixes.{IsLongestMatch}
use Rattle.cidr_lookup.specs.Keys.{prefix_bits}
use Rattle.cidr_files.specs.Faults.{IsFaultOfBytes}
use Rattle.cidr_files.specs.Layout.{IsLaidOut, header, ipv4_counts, ipv4_parts, ipv4_sizes, ipv6_counts, ipv6_parts, padded, padded_room, sizes_of, wide_words, words}
use Rattle.cidr_files.specs.Tables.{IsFile, IsStoredTable, stored_networks, value_in}
use Rattle.cidr_files.specs.declared.faults.FileFault.{FileFault}
use Rattle.cidr_files.specs.declared.faults.FileFault.TheVariants.{Magic, Old, Version, Short, Long, Ipv4, Ipv6}
use Rattle.cidr_files.specs.declared.faults.TableFault.{TableFault}
use Rattle.cidr_files.specs.declared.faults.TableFault.TheVariants.{Words, Offsets}
use Rattle.cidr_files.specs.declared.layout.Counts.{Counts}
use Rattle.cidr_c.specs.calls.Calls.{IsYesOrNo}
use Rattle.cidr_c.specs.model.Codes.{long_file, no_file, no_room, other_version, short_file, wrong_values}
use Rattle.cidr_c.specs.model.Tables.{no_row, words_fault_code}
use Rattle.cidr_c.specs.model.Values.{IsAddressValue, IsLow, number_in}
use Rattle.cidr_c.specs.declared.files.CFile.{CFile}
use Rattle.cidr_c.specs.declared.files.CFileTable.{CFileTable}
use Rattle.cidr_c.specs.declared.files.CFound.{CFound}
use Rattle.cidr_c.specs.declared.values.CValue.{CValue}

-- ---- where the parts of a file lie
-- where parts of these sizes begin, the first of them at a place
abbrev pub places : ℕ → List ℕ → List ℕ
places place [] = []
places place (size ∷ sizes) = place ∷ places (place + padded size) sizes

-- the table whose parts lie from a place on, with addresses of so many bytes
abbrev pub table_from : ℕ → ℕ → Counts → CFileTable
table_from place size counts =
    let begins = places place (sizes_of size counts) in record {
      first = slice_index_or begins 0 0;
      words = slice_index_or begins 1 0;
      addresses = slice_index_or begins 2 0;
      lengths = slice_index_or begins 3 0;
      offsets = slice_index_or begins 4 0;
      values = slice_index_or begins 5 0;
      values_len = counts.values;
      rows = counts.rows;
      entries = counts.entries;
      words_len = counts.words;
      steps = counts.steps;
    }

-- the tables of a file's bytes
abbrev pub file_in : List ℕ → CFile
file_in bytes = record {
  ipv4 = table_from header 4 (ipv4_counts bytes);
  ipv6 = table_from (header + padded_room (ipv4_sizes bytes)) 16 (ipv6_counts bytes);
}

-- ---- opening and checking
-- the number of what is wrong with a table
abbrev pub table_fault_code : TableFault → ℕ
table_fault_code (Words fault) = words_fault_code fault
table_fault_code Offsets = wrong_values

-- and with a file
abbrev pub file_fault_code : FileFault → ℕ
file_fault_code Magic = no_file
file_fault_code Old = other_version
file_fault_code (Version other) = other_version
file_fault_code Short = short_file
file_fault_code Long = long_file
file_fault_code (Ipv4 fault) = table_fault_code fault
file_fault_code (Ipv6 fault) = table_fault_code fault

-- the number of what is wrong with the bytes first
abbrev pub IsFaultCode : List ℕ → ℕ → Type 0
IsFaultCode bytes code = (fault : FileFault) × (code ≡ file_fault_code fault) × IsFaultOfBytes bytes fault

-- opening: 0, and where the tables lie in bytes that are as long as their header says; or the number of what is wrong, and all
-- is as it was
pub record IsOpened (bytes : List ℕ) (old new : CFile) (code : ℕ) : Type 0 where
  pub laid_out : code ≡ 0 → IsLaidOut bytes
  pub file : code ≡ 0 → new ≡ file_in bytes
  pub fault : code ≢ 0 → IsFaultCode bytes code
  pub unopened : code ≢ 0 → ¬ (IsLaidOut bytes)
  pub stays : code ≢ 0 → new ≡ old

-- checking: 0, where the bytes are a file; or the number of what is wrong with them first, but for that of memory, which may
-- come before it
pub record IsFileChecked (bytes : List ℕ) (code : ℕ) : Type 0 where
  pub file : code ≡ 0 → IsFile bytes
  pub fault : code ≢ 0 → IsFaultCode bytes code

-- ---- look-ups
-- so many bytes from a place on
abbrev pub bytes_at : List ℕ → ℕ → ℕ → List ℕ
bytes_at bytes place size = take size (drop place bytes)

-- how many rows the table of an address's family has
abbrev pub rows_for : CFile → CValue → ℕ
rows_for file asked = if nat_lt asked.tag 64 then file.ipv4.rows else file.ipv6.rows

-- the row of the longest match of an address (RFC 1812, 5.2.4.3) and the bytes of its value; or none
abbrev pub IsMatched : ℕ → List (ℕ × ℕ) → (ℕ → List ℕ) → List ℕ → ℕ → CFound → Type 0
IsMatched w networks value bytes address found =
    (IsLongestMatch (prefix_bits w) (bits w address) networks (Some found.row) × (bytes_at bytes found.value found.value_len ≡ value found.row))
    ⊎ ((found.row ≡ no_row) × IsLongestMatch (prefix_bits w) (bits w address) networks None)

-- what is found in any bytes: a row and bytes of them, or nothing; and in those of a file the longest match of an address
pub record IsFoundInFile (bytes : List ℕ) (file : CFile) (asked : CValue) (found : CFound) : Type 0 where
  pub inside : found.value + found.value_len ≤ length bytes
  pub nothing : found.row ≡ no_row → (found.value ≡ 0) × (found.value_len ≡ 0)
  pub within : found.row ≢ no_row → found.row < rows_for file asked
  pub address : found.row ≢ no_row → IsAddressValue asked
  pub ipv4 : IsFile bytes → file ≡ file_in bytes → asked.tag ≡ 32 → IsLow asked
      → IsMatched 32 (stored_networks words (ipv4_parts bytes)) (value_in (ipv4_parts bytes)) bytes asked.low found
  pub ipv6 : IsFile bytes → file ≡ file_in bytes → asked.tag ≡ 192
      → IsMatched 128 (stored_networks wide_words (ipv6_parts bytes)) (value_in (ipv6_parts bytes)) bytes (number_in asked) found

-- one of the networks has the address
abbrev pub IsInNetworks : ℕ → List (ℕ × ℕ) → ℕ → Type 0
IsInNetworks w networks address =
    (network : ℕ × ℕ) × Contains networks network × BeginsWith (bits w address) (prefix_bits w network)

-- whether one has it: 1 or 0, and in the bytes of a file the right one of them; 0 for what is no address
pub record IsInSet (bytes : List ℕ) (file : CFile) (asked : CValue) (code : ℕ) : Type 0 where
  pub codes : code ≤ 1
  pub address : code ≡ 1 → IsAddressValue asked
  pub ipv4 : IsFile bytes → file ≡ file_in bytes → asked.tag ≡ 32 → IsLow asked
      → IsYesOrNo code (IsInNetworks 32 (stored_networks words (ipv4_parts bytes)) asked.low)
  pub ipv6 : IsFile bytes → file ≡ file_in bytes → asked.tag ≡ 192
      → IsYesOrNo code (IsInNetworks 128 (stored_networks wide_words (ipv6_parts bytes)) (number_in asked))

-- answers to many, each at its index; or there is too little room, and all is as it was
pub record AreAnsweredIn {A : Type 0} (Answers : CValue → A → Type 0) (asked : List CValue) (old out : List A) (code : ℕ) : Type 0 where
  pub answers : code ≡ 0 → (i : ℕ) (v : CValue) → slice_get asked i ≡ Some v → (answer : A) × (slice_get out i ≡ Some answer) × Answers v answer
  pub behind : drop (length asked) out ≡ drop (length asked) old
  pub room : code ≡ no_room → (length out < length asked) × (out ≡ old)
  pub codes : (code ≡ 0) ⊎ (code ≡ no_room)

-- ---- what private functions promise each other
-- the parts that lie where a table says
abbrev pub parts_at : ℕ → CFileTable → List ℕ → List (List ℕ)
parts_at size table bytes =
    bytes_at bytes table.first (4 * table.entries)
    ∷ bytes_at bytes table.words (4 * table.words_len)
    ∷ bytes_at bytes table.addresses (size * table.rows)
    ∷ bytes_at bytes table.lengths table.rows
    ∷ bytes_at bytes table.offsets (4 * (table.rows + 1))
    ∷ bytes_at bytes table.values table.values_len ∷ []

-- all that a look-up reads of them lies inside of the bytes
pub record LieInBytes (table : CFileTable) (bytes : List ℕ) : Type 0 where
  pub first : table.first + 4 * table.entries ≤ length bytes
  pub words : table.words + 4 * table.words_len ≤ length bytes
  pub offsets : table.offsets + 4 * (table.rows + 1) ≤ length bytes
  pub values : table.values + table.values_len ≤ length bytes

-- what is found in the parts of a table
pub record IsFoundInParts (w padding : ℕ) (numbers : List ℕ → List ℕ) (size : ℕ) (table : CFileTable) (bytes : List ℕ) (address : ℕ) (found : CFound) : Type 0 where
  pub inside : found.value + found.value_len ≤ length bytes
  pub nothing : found.row ≡ no_row → (found.value ≡ 0) × (found.value_len ≡ 0)
  pub within : found.row ≢ no_row → found.row < table.rows
  pub matched : LieInBytes table bytes → IsStoredTable w padding numbers (parts_at size table bytes) table.steps
      → IsMatched w (stored_networks numbers (parts_at size table bytes)) (value_in (parts_at size table bytes)) bytes address found

-- whether one of their networks has an address
pub record IsInSetAt (w padding : ℕ) (numbers : List ℕ → List ℕ) (size : ℕ) (table : CFileTable) (bytes : List ℕ) (address code : ℕ) : Type 0 where
  pub codes : code ≤ 1
  pub answer : LieInBytes table bytes → IsStoredTable w padding numbers (parts_at size table bytes) table.steps
      → IsYesOrNo code (IsInNetworks w (stored_networks numbers (parts_at size table bytes)) address)
