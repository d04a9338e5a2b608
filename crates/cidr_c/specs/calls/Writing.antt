-- Files that are written.
use Rattle.std.specs.Prelude.{◌≡◌, ◌≢◌, ◌⊎◌, ℕ, suc, ◌+◌, ◌^◌, ◌<◌, ◌≤◌, nat_lt, if◌then◌else◌, List, [], ◌∷◌, drop, length, map, replicate, slice_index_or, slice_range, take, Some}
use Rattle.cidr_lookup.specs.Keys.{AreAscendingNetworks, IsFirstRefused}
use Rattle.cidr_files.specs.Contents.{HasZerosBetween}
use Rattle.cidr_files.specs.Layout.{ipv4_counts, ipv4_parts, ipv6_counts, ipv6_parts, wide_words, words}
use Rattle.cidr_files.specs.Tables.{AreOffsets, IsFile, stored_networks, value_in}
use Rattle.cidr_lookup.specs.Tables.{HasTooManyWords, ipv4_steps, ipv6_steps}
use Rattle.cidr_c.specs.model.Codes.{no_memory, no_room, no_value, too_many, wrong_values}
use Rattle.cidr_c.specs.model.Tables.{ipv4_pair, ipv6_pair}
use Rattle.cidr_c.specs.declared.values.CValue.{CValue}

-- how many values there are before the first that is no IPv4 value
abbrev pub ipv4_rows : List CValue → ℕ
ipv4_rows [] = 0
ipv4_rows (v ∷ vs) = if nat_lt v.tag 64 then suc (ipv4_rows vs) else 0

-- their networks, and those of the others
abbrev pub ipv4_networks : List CValue → List (ℕ × ℕ)
ipv4_networks values = map ipv4_pair (take (ipv4_rows values) values)

abbrev pub ipv6_networks : List CValue → List (ℕ × ℕ)
ipv6_networks values = map ipv6_pair (drop (ipv4_rows values) values)

-- the value of a row
abbrev pub bytes_of_row : List ℕ → List ℕ → ℕ → List ℕ
bytes_of_row offsets values row = slice_range values (slice_index_or offsets row 0) (slice_index_or offsets (row + 1) 0)

-- the values lie one behind the other
abbrev pub AreValueOffsets : List CValue → List ℕ → List ℕ → Type 0
AreValueOffsets networks offsets values = AreOffsets offsets (length networks) (length values) × (length values < 2 ^ 32)

-- the bytes are a file of these networks and their values; the rows of IPv6 are those behind the rows of IPv4. Each table has as
-- many steps as the builder takes for so many rows, and what is not read is zeros
pub record IsFileOf (networks : List CValue) (offsets values bytes : List ℕ) : Type 0 where
  pub file : IsFile bytes
  pub zeros : HasZerosBetween bytes
  pub ipv4_own : (ipv4_counts bytes).steps ≡ ipv4_steps (length (ipv4_networks networks))
  pub ipv6_own : (ipv6_counts bytes).steps ≡ ipv6_steps (length (ipv6_networks networks))
  pub ipv4 : stored_networks words (ipv4_parts bytes) ≡ ipv4_networks networks
  pub ipv6 : stored_networks wide_words (ipv6_parts bytes) ≡ ipv6_networks networks
  pub ipv4_values : (row : ℕ) → row < ipv4_rows networks → value_in (ipv4_parts bytes) row ≡ bytes_of_row offsets values row
  pub ipv6_values : (row : ℕ) → ipv4_rows networks + row < length networks
      → value_in (ipv6_parts bytes) row ≡ bytes_of_row offsets values (ipv4_rows networks + row)

-- the first value that is no network of its family or doesn't come behind the one before it
abbrev pub IsFirstRefusedAt : List CValue → ℕ → Type 0
IsFirstRefusedAt networks index =
    IsFirstRefused 32 (ipv4_networks networks) (Some index)
    ⊎ (AreAscendingNetworks 32 (ipv4_networks networks)
    × (rest : ℕ) × (index ≡ ipv4_rows networks + rest) × IsFirstRefused 128 (ipv6_networks networks) (Some rest))

-- there are too many of them, or the look-up table of a family has too many words
abbrev pub AreTooMany : List CValue → Type 0
AreTooMany networks = (2 ^ 31 ≤ length networks)
    ⊎ (HasTooManyWords 32 4 (ipv4_steps (length (ipv4_networks networks))) (ipv4_networks networks)
    ⊎ HasTooManyWords 128 2 (ipv6_steps (length (ipv6_networks networks))) (ipv6_networks networks))

-- writing: 0, and the first `count` bytes are the file; or when each error comes, in this order, but for that of memory, which
-- may come before each. With the number of `no_value` the count becomes the index of the first value that is refused, with
-- that of `no_room` how many bytes are room enough
pub record IsFileWritten (networks : List CValue) (offsets values old new : List ℕ) (count count_new code : ℕ) : Type 0 where
  pub file : code ≡ 0 → IsFileOf networks offsets values (take count_new new)
  pub fits : code ≡ 0 → count_new ≤ length new
  pub behind : code ≡ 0 → drop count_new new ≡ drop count_new old
  pub many : code ≡ too_many → AreTooMany networks
  pub values_wrong : code ≡ wrong_values → (length networks < 2 ^ 31) × ¬ (AreValueOffsets networks offsets values)
  pub refused : code ≡ no_value → (length networks < 2 ^ 31) × AreValueOffsets networks offsets values × IsFirstRefusedAt networks count_new
  pub room : code ≡ no_room → (bytes : List ℕ) × IsFileOf networks offsets values bytes × (count_new ≡ length bytes) × (length new < count_new)
  pub codes : (code ≡ 0) ⊎ ((code ≡ too_many) ⊎ ((code ≡ wrong_values) ⊎ ((code ≡ no_memory) ⊎ ((code ≡ no_value) ⊎ (code ≡ no_room)))))
  pub stays : code ≢ 0 → new ≡ old
  pub count_stays : (code ≡ too_many) ⊎ ((code ≡ wrong_values) ⊎ (code ≡ no_memory)) → count_new ≡ count

-- the offsets of values that are all empty
abbrev pub empty_offsets : List CValue → List ℕ
empty_offsets networks = replicate (length networks + 1) 0

-- writing a set
pub record IsSetWritten (networks : List CValue) (old new : List ℕ) (count count_new code : ℕ) : Type 0 where
  pub written : IsFileWritten networks (empty_offsets networks) [] old new count count_new code
  pub values_right : code ≢ wrong_values
