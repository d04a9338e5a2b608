-- Which words are the look-up table of networks.
use Rattle.std.specs.Prelude.{◌≡◌, ℕ, ◌+◌, ◌*◌, ◌/◌, ◌^◌, ◌<◌, ◌≤◌, nat_lt, if◌then◌else◌, List, [], Some, length}
use Rattle.cidr.specs.model.Bits.{bits}
use Rattle.cidr_table.specs.model.Prefixes.{IsLongestMatch}
use Rattle.cidr_lookup.specs.Keys.{AreAscendingNetworks, IsFirstRefused, prefix_bits, row_behind}
use Rattle.cidr_lookup.specs.declared.table.TableError.{TableError}
use Rattle.cidr_lookup.specs.declared.table.TableError.TheVariants.{TooMany, Refused, TooLarge, NoMemory}
use Rattle.cidr_lookup.specs.Nodes.{AreEntries, IsEntry}

-- what a value says of a number, which is an address of w bits with some zeros behind it: its longest match (RFC 1812, 5.2.4.3)
abbrev pub IsAnswer : (w padding : ℕ) → List (ℕ × ℕ) → (number value : ℕ) → Type 0
IsAnswer w padding networks number value = IsLongestMatch (prefix_bits w) (bits w (number / 2 ^ padding)) networks (row_behind value)

-- the entries of all blocks of 64 ^ steps numbers
pub record IsLookupTable (w padding steps : ℕ) (networks : List (ℕ × ℕ)) (first words : List ℕ) : Type 0 where
  pub keys : AreAscendingNetworks w networks
  pub some : 6 * steps < w + padding
  pub few : w + padding ≤ 6 * steps + 32
  pub size : length first * 2 ^ (6 * steps) ≡ 2 ^ (w + padding)
  pub entries : AreEntries (IsEntry (IsAnswer w padding networks) steps) 0 (length first) [] first words

-- how many steps the table of so many networks has, of IPv4 and of IPv6
abbrev pub ipv4_steps : ℕ → ℕ
ipv4_steps networks = if nat_lt networks 64 then 5 else (if nat_lt networks 1000 then 4 else 3)

abbrev pub ipv6_steps : ℕ → ℕ
ipv6_steps networks = if nat_lt networks 64 then 20 else 19

-- the table of so many steps has more words than any may have
abbrev pub HasTooManyWords : (w padding steps : ℕ) → List (ℕ × ℕ) → Type 0
HasTooManyWords w padding steps networks = (first words : List ℕ) → IsLookupTable w padding steps networks first words → 2 ^ 30 ≤ length words

-- why there is none: too many networks; or else one is refused; or else it has too many words; or an allocation failed
abbrev pub IsTableRefused : (w padding steps : ℕ) → List (ℕ × ℕ) → TableError → Type 0
IsTableRefused w padding steps networks TooMany = 2 ^ 31 ≤ length networks
IsTableRefused w padding steps networks (Refused index) = (length networks < 2 ^ 31) × IsFirstRefused w networks (Some index)
IsTableRefused w padding steps networks TooLarge = (length networks < 2 ^ 31) × AreAscendingNetworks w networks × HasTooManyWords w padding steps networks
IsTableRefused w padding steps networks NoMemory = length networks < 2 ^ 31
