-- Where the parts of a file lie: a header of 64 bytes, then the parts of its IPv4 table and those of its IPv6 table, each
-- at a multiple of 8 bytes. README.md has the same as a page.
use Rattle.std.specs.Prelude.{◌≡◌, ℕ, ◌+◌, ◌*◌, ◌/◌, ◌^◌, ◌<◌, List, [], ◌∷◌, drop, length, map, slice_index_or, take}
use Rattle.std.specs.Int.{from_le_bytes, w32, w64}
use Rattle.std.specs.Simd.{first_chunks}
use Rattle.cidr_files.specs.declared.layout.Counts.{Counts}

-- ---- the numbers that bytes spell
-- as many chunks of so many as there are
abbrev pub chunks : {X : Type 0} → ℕ → List X → List (List X)
chunks n xs = first_chunks n (length xs / n) xs

-- four bytes each, the lowest first
abbrev pub words : List ℕ → List ℕ
words bytes = map (from_le_bytes w32) (chunks 4 bytes)

-- the number of two halves, the higher one first, of each the lowest byte first
abbrev pub wide_word : List (List ℕ) → ℕ
wide_word halves = from_le_bytes w64 (slice_index_or halves 0 []) * 2 ^ 64 + from_le_bytes w64 (slice_index_or halves 1 [])

-- sixteen bytes each
abbrev pub wide_words : List ℕ → List ℕ
wide_words bytes = map wide_word (chunks 2 (chunks 8 bytes))

-- the word at an index, or 0 behind the last
abbrev pub word_at : List ℕ → ℕ → ℕ
word_at bytes k = slice_index_or (words bytes) k 0

-- ---- parts
-- a size, and what is left free behind it up to a multiple of 8
abbrev pub padded : ℕ → ℕ
padded size = (size + 7) / 8 * 8

-- the parts of these sizes, one behind the other
abbrev pub parts_by_size : List ℕ → List ℕ → List (List ℕ)
parts_by_size [] bytes = []
parts_by_size (size ∷ sizes) bytes = take size bytes ∷ parts_by_size sizes (drop (padded size) bytes)

-- what lies behind them
abbrev pub bytes_behind : List ℕ → List ℕ → List ℕ
bytes_behind [] bytes = bytes
bytes_behind (size ∷ sizes) bytes = bytes_behind sizes (drop (padded size) bytes)

-- the room that they take
abbrev pub padded_room : List ℕ → ℕ
padded_room [] = 0
padded_room (size ∷ sizes) = padded size + padded_room sizes

-- ---- the header
-- the bytes 89 43 49 44, which begin no UTF-8 text
abbrev pub magic : ℕ
magic = 0x44494389

abbrev pub version : ℕ
version = 5

-- those of the files of earlier releases
abbrev pub IsOldVersion : ℕ → Type 0
IsOldVersion n = (0 < n) × (n < version)

-- the size of the header
abbrev pub header : ℕ
header = 64

-- the counts of a table among words, from an index on
abbrev pub counts_in : List ℕ → ℕ → Counts
counts_in ws k = record {
  rows = slice_index_or ws k 0;
  entries = slice_index_or ws (k + 1) 0;
  words = slice_index_or ws (k + 2) 0;
  steps = slice_index_or ws (k + 3) 0;
  values = slice_index_or ws (k + 4) 0;
}

abbrev pub counts_at : List ℕ → ℕ → Counts
counts_at bytes k = counts_in (words bytes) k

-- the sizes of its parts, where an address has so many bytes: entries of blocks, words of nodes and lists, addresses, prefix lengths,
-- offsets of the values, and these
abbrev pub sizes_of : ℕ → Counts → List ℕ
sizes_of size counts =
    4 * counts.entries ∷ 4 * counts.words ∷ size * counts.rows ∷ counts.rows ∷ 4 * (counts.rows + 1) ∷ counts.values ∷ []

abbrev pub ipv4_counts : List ℕ → Counts
ipv4_counts bytes = counts_at bytes 4

abbrev pub ipv6_counts : List ℕ → Counts
ipv6_counts bytes = counts_at bytes 10

abbrev pub ipv4_sizes : List ℕ → List ℕ
ipv4_sizes bytes = sizes_of 4 (ipv4_counts bytes)

abbrev pub ipv6_sizes : List ℕ → List ℕ
ipv6_sizes bytes = sizes_of 16 (ipv6_counts bytes)

-- the parts of the two tables
abbrev pub ipv4_parts : List ℕ → List (List ℕ)
ipv4_parts bytes = parts_by_size (ipv4_sizes bytes) (drop header bytes)

abbrev pub ipv6_parts : List ℕ → List (List ℕ)
ipv6_parts bytes = parts_by_size (ipv6_sizes bytes) (bytes_behind (ipv4_sizes bytes) (drop header bytes))

-- how long the file is
abbrev pub size_of : List ℕ → ℕ
size_of bytes = header + padded_room (ipv4_sizes bytes) + padded_room (ipv6_sizes bytes)

-- it begins with the magic word and the version, and is as long as its header says
pub record IsLaidOut (bytes : List ℕ) : Type 0 where
  pub magic_is : word_at bytes 0 ≡ magic
  pub version_is : word_at bytes 1 ≡ version
  pub long : length bytes ≡ size_of bytes
