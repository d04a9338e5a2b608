-- Look-up tables in arrays of the caller. Which words are the table of networks is said in `Rattle.cidr_lookup.specs.Tables`.
use Rattle.std.specs.Prelude.{◌≡◌, ◌≢◌, ◌⊎◌, ℕ, ◌+◌, ◌-◌, ◌*◌, ◌^◌, ◌<◌, ◌≤◌, ◌==◌, nat_lt, if◌then◌else◌, List, ◌++◌, drop, length, slice_index_or, Some, None}
use Rattle.cidr.specs.model.Bits.{bits}
use Rattle.cidr_table.specs.model.Prefixes.{IsLongestMatch}
use Rattle.cidr_lookup.specs.Faults.{IsFault}
use Rattle.cidr_lookup.specs.Keys.{IsFirstRefused, prefix_bits}
use Rattle.cidr_lookup.specs.Tables.{IsLookupTable, IsTableRefused}
use Rattle.cidr_lookup.specs.declared.checking.WordsFault.{WordsFault}
use Rattle.cidr_lookup.specs.declared.checking.WordsFault.TheVariants.{Keys}
use Rattle.cidr_lookup.specs.declared.table.TableError.{TableError}
use Rattle.cidr_lookup.specs.declared.table.TableError.TheVariants.{TooMany, Refused, TooLarge, NoMemory}
use Rattle.cidr_lookup.specs.declared.halves.Ipv6Halves.{Ipv6Halves}
use Rattle.cidr_c.specs.model.Codes.{no_memory, no_room, no_table, no_value, too_many}
use Rattle.cidr_c.specs.model.Values.{number_in}
use Rattle.cidr_c.specs.declared.tables.CTableSizes.{CTableSizes}
use Rattle.cidr_c.specs.declared.values.CValue.{CValue}

-- the number of the address and the prefix length of an IPv4 value; another value gets a length that no network has
abbrev pub ipv4_pair : CValue → ℕ × ℕ
ipv4_pair v = if v.high == 0 then (if nat_lt v.low (2 ^ 32) then (v.low, v.tag) else (0, 255)) else (0, 255)

-- the same of an IPv6 value
abbrev pub ipv6_pair : CValue → ℕ × ℕ
ipv6_pair v = (number_in v, if nat_lt v.tag 64 then 255 else v.tag - 64)

-- the number of two halves
abbrev pub ipv6_number : Ipv6Halves → ℕ
ipv6_number halves = halves.high * 2 ^ 64 + halves.low

-- the number of why keys have no table
abbrev pub table_error_code : TableError → ℕ
table_error_code TooMany = too_many
table_error_code (Refused index) = no_value
table_error_code TooLarge = too_many
table_error_code NoMemory = no_memory

-- of what is wrong with words
abbrev pub words_fault_code : WordsFault → ℕ
words_fault_code (Keys error) = table_error_code error
words_fault_code other = no_table

-- putting the entries and the words of a table into two arrays: 0, and they stand in the fronts, and what is behind them stays;
-- or there is too little room in one, and all stays. Either way the sizes become those of the table
pub record ArePut (entries nodes : List ℕ) (steps : ℕ) (first words first_new words_new : List ℕ) (sizes sizes_new : CTableSizes) (code : ℕ)
    : Type 0 where
  pub sizes_are : sizes_new ≡ record { first = length entries; words = length nodes; index = sizes.index; steps = steps }
  pub fits : code ≡ 0 → (length entries ≤ length first) × (length nodes ≤ length words)
  pub put : code ≡ 0 → (first_new ≡ entries ++ drop (length entries) first) × (words_new ≡ nodes ++ drop (length nodes) words)
  pub room : code ≡ no_room → (length first < length entries) ⊎ (length words < length nodes)
  pub stays : code ≢ 0 → (first_new ≡ first) × (words_new ≡ words)
  pub codes : (code ≡ 0) ⊎ (code ≡ no_room)

-- building the table of networks into two arrays, of as many steps as the builder takes for so many: it is put into them, where
-- there is room; or when each error comes, in this order, but for that of memory, which may come before each. With the number
-- of `no_value` the index becomes that of the first value that is no network of the family or out of order
pub record IsBuilt (w padding : ℕ) (steps_of : ℕ → ℕ) (networks : List (ℕ × ℕ)) (first words first_new words_new : List ℕ)
    (sizes sizes_new : CTableSizes) (code : ℕ) : Type 0 where
  pub table : (code ≡ 0) ⊎ (code ≡ no_room) → (entries : List ℕ) × (nodes : List ℕ)
      × IsLookupTable w padding (steps_of (length networks)) networks entries nodes
      × ArePut entries nodes (steps_of (length networks)) first words first_new words_new sizes sizes_new code
  pub few : (code ≡ 0) ⊎ (code ≡ no_room) → (length networks < 2 ^ 31) × (sizes_new.first ≤ 2 ^ 20) × (sizes_new.words < 2 ^ 30)
  pub many : code ≡ too_many → IsTableRefused w padding (steps_of (length networks)) networks TooMany
      ⊎ IsTableRefused w padding (steps_of (length networks)) networks TooLarge
  pub refused : code ≡ no_value → (length networks < 2 ^ 31) × IsFirstRefused w networks (Some sizes_new.index)
      × (sizes_new ≡ record { first = sizes.first; words = sizes.words; index = sizes_new.index; steps = sizes.steps })
  pub codes : (code ≡ 0) ⊎ ((code ≡ too_many) ⊎ ((code ≡ no_memory) ⊎ ((code ≡ no_value) ⊎ (code ≡ no_room))))
  pub stays : code ≢ 0 → (first_new ≡ first) × (words_new ≡ words)
  pub sizes_stay : (code ≡ too_many) ⊎ (code ≡ no_memory) → sizes_new ≡ sizes

-- checking arrays: 0, where they are the table of the networks; or else the number of what is wrong with them first, but for
-- that of memory, which may come before it
pub record IsChecked (w padding steps : ℕ) (networks : List (ℕ × ℕ)) (first words : List ℕ) (code : ℕ) : Type 0 where
  pub table : code ≡ 0 → IsLookupTable w padding steps networks first words
  pub fault : code ≢ 0 → code ≢ no_memory
      → (fault : WordsFault) × (code ≡ words_fault_code fault) × IsFault w padding steps networks first words fault

-- the row that stands for none
abbrev pub no_row : ℕ
no_row = 2 ^ 32 - 1

-- the row of the longest match of an address (RFC 1812, 5.2.4.3), or that which stands for none
abbrev pub IsRow : ℕ → List (ℕ × ℕ) → ℕ → ℕ → Type 0
IsRow w networks address row =
    IsLongestMatch (prefix_bits w) (bits w address) networks (Some row)
    ⊎ ((row ≡ no_row) × IsLongestMatch (prefix_bits w) (bits w address) networks None)

-- what is found in any arrays: one of so many rows, or that which stands for none; and in the table of networks the longest
-- match of an address of the family, and none of any other value
pub record IsRowFound (w padding steps rows : ℕ) (first words : List ℕ) (asked : ℕ × ℕ) (row : ℕ) : Type 0 where
  pub within : (row < rows) ⊎ (row ≡ no_row)
  pub other : asked.1 ≢ w → row ≡ no_row
  pub longest : asked.1 ≡ w → (networks : List (ℕ × ℕ)) → length networks ≡ rows → IsLookupTable w padding steps networks first words
      → IsRow w networks asked.0 row

-- the same of many, each at its index; or there is too little room, and all is as it was
pub record AreFound (w padding steps rows : ℕ) (first words : List ℕ) (asked : List (ℕ × ℕ)) (old out : List ℕ) (code : ℕ) : Type 0 where
  pub rows_of : code ≡ 0 → (i : ℕ) → i < length asked
      → IsRowFound w padding steps rows first words (slice_index_or asked i (0, 0)) (slice_index_or out i 0)
  pub behind : drop (length asked) out ≡ drop (length asked) old
  pub room : code ≡ no_room → (length out < length asked) × (out ≡ old)
  pub fits : code ≡ 0 → length asked ≤ length out
  pub codes : (code ≡ 0) ⊎ (code ≡ no_room)
