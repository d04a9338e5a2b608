-- Ranges of addresses. Range k begins with the address that `starts` has at k, and ends before the next start.
use Rattle.std.specs.Prelude.{◌≡◌, ◌≢◌, ℕ, zero, suc, ◌+◌, ◌*◌, ◌/◌, ◌^◌, ◌<◌, ◌≤◌, List, [], ◌∷◌, Some, length, slice_index_or}
use Rattle.cidr.specs.model.Bits.{bits}
use Rattle.cidr_table.specs.model.Prefixes.{IsLongestMatch}
use Rattle.cidr_lookup.specs.Keys.{IsFirstRefused, prefix_bits, row_behind}
use Rattle.cidr_lookup.specs.declared.table.TableError.{TableError}
use Rattle.cidr_lookup.specs.declared.table.TableError.TheVariants.{TooMany, Refused, TooLarge, NoMemory}

-- the last range that begins at most with the number
pub record IsRangeOf (starts : List ℕ) (number k : ℕ) : Type 0 where
  pub within : k < length starts
  pub from : slice_index_or starts k 0 ≤ number
  pub last : (i : ℕ) → k < i → i < length starts → number < slice_index_or starts i 0

-- the first range begins with the address 0, and each later one behind the start of the one before it
pub record AreStarts (starts : List ℕ) : Type 0 where
  pub some : 0 < length starts
  pub first : slice_index_or starts 0 0 ≡ 0
  pub ascending : (i k : ℕ) → i < k → k < length starts → slice_index_or starts i 0 < slice_index_or starts k 0

-- ranges whose answers are the longest matches of their addresses (RFC 1812, 5.2.4.3), and as few as that takes: the answers of
-- two side by side differ
pub record AreMatchRanges (w : ℕ) (networks : List (ℕ × ℕ)) (starts answers : List ℕ) : Type 0 where
  pub ordered : AreStarts starts
  pub both : length answers ≡ length starts
  pub fits : (k : ℕ) → k < length starts → slice_index_or starts k 0 < 2 ^ w
  pub changes : (k : ℕ) → k + 1 < length starts → slice_index_or answers k 0 ≢ slice_index_or answers (k + 1) 0
  pub matches : (address k : ℕ) → address < 2 ^ w → IsRangeOf starts address k
      → IsLongestMatch (prefix_bits w) (bits w address) networks (row_behind (slice_index_or answers k 0))

-- the changes to n ranges from one on: where each begins, with zeros behind it and divided by 2 ^ 82, and its answer
unfoldable pub changes_from : (padding : ℕ) (starts answers : List ℕ) (k n : ℕ) → List (ℕ × ℕ)
changes_from padding starts answers k zero = []
changes_from padding starts answers k (suc n) = (slice_index_or starts k 0 * 2 ^ padding / 2 ^ 82, slice_index_or answers k 0) ∷ changes_from padding starts answers (k + 1) n

-- why keys have no ranges: too many networks; or else one is refused; or an allocation failed
abbrev pub AreKeysRefused : ℕ → List (ℕ × ℕ) → TableError → Type 0
AreKeysRefused w networks TooMany = 2 ^ 31 ≤ length networks
AreKeysRefused w networks (Refused index) = (length networks < 2 ^ 31) × IsFirstRefused w networks (Some index)
AreKeysRefused w networks TooLarge = ⊥
AreKeysRefused w networks NoMemory = length networks < 2 ^ 31
