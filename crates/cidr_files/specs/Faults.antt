-- What is wrong with bytes that are no file of tables: the first thing.
use Rattle.std.specs.Prelude.{◌≡◌, ◌≢◌, ℕ, ◌<◌, List, length, ⊤}
use Rattle.cidr_lookup.specs.Faults as lookup
use Rattle.cidr_lookup.specs.declared.checking.WordsFault.TheVariants.{Keys}
use Rattle.cidr_lookup.specs.declared.table.TableError.TheVariants.{NoMemory}
use Rattle.cidr_files.specs.Layout.{IsLaidOut, IsOldVersion, ipv4_counts, ipv4_parts, ipv6_counts, ipv6_parts, magic, size_of, version, wide_words, word_at, words}
use Rattle.cidr_files.specs.Tables.{AreLookUps, AreOffsets, IsStoredTable, stored_networks, offsets_in, part_at}
use Rattle.cidr_files.specs.declared.faults.FileFault.{FileFault}
use Rattle.cidr_files.specs.declared.faults.FileFault.TheVariants.{Magic, Old, Version, Short, Long, Ipv4, Ipv6}
use Rattle.cidr_files.specs.declared.faults.TableFault.{TableFault}
use Rattle.cidr_files.specs.declared.faults.TableFault.TheVariants.{Words, Offsets}

-- why the parts are no table: the words are not those of the networks, or else the offsets not those of the values. Memory
-- may be refused whatever they are
abbrev pub IsTableFault : (w padding : ℕ) → (List ℕ → List ℕ) → List (List ℕ) → ℕ → TableFault → Type 0
IsTableFault w padding numbers parts steps (Words (Keys NoMemory)) = ⊤
IsTableFault w padding numbers parts steps (Words fault) =
    lookup.IsFault w padding steps (stored_networks numbers parts) (words (part_at parts 0)) (words (part_at parts 1)) fault
IsTableFault w padding numbers parts steps Offsets =
    AreLookUps w padding numbers parts steps × ¬ (AreOffsets (offsets_in parts) (length (stored_networks numbers parts)) (length (part_at parts 5)))

-- why the bytes are no file, each where those before it don't hold
abbrev pub IsFaultOfBytes : List ℕ → FileFault → Type 0
IsFaultOfBytes bytes Magic = word_at bytes 0 ≢ magic
IsFaultOfBytes bytes Old = (word_at bytes 0 ≡ magic) × IsOldVersion (word_at bytes 1)
IsFaultOfBytes bytes (Version other) = (word_at bytes 0 ≡ magic) × (word_at bytes 1 ≡ other) × ¬ (IsOldVersion other) × (other ≢ version)
IsFaultOfBytes bytes Short = (word_at bytes 0 ≡ magic) × (word_at bytes 1 ≡ version) × (length bytes < size_of bytes)
IsFaultOfBytes bytes Long = (word_at bytes 0 ≡ magic) × (word_at bytes 1 ≡ version) × (size_of bytes < length bytes)
IsFaultOfBytes bytes (Ipv4 fault) = IsLaidOut bytes × IsTableFault 32 4 words (ipv4_parts bytes) (ipv4_counts bytes).steps fault
IsFaultOfBytes bytes (Ipv6 fault) =
    IsLaidOut bytes × IsStoredTable 32 4 words (ipv4_parts bytes) (ipv4_counts bytes).steps
    × IsTableFault 128 2 wide_words (ipv6_parts bytes) (ipv6_counts bytes).steps fault
