-- Rows in arrays of the caller, whose networks ascend.
use Rattle.std.specs.Prelude.{◌≡◌, ◌≢◌, ◌⊎◌, ◌↔◌, ℕ, ◌+◌, ◌<◌, ◌≤◌, All, Bool, List, length, map, take, drop, slice_index_or, slice_set, None}
use Rattle.std.specs.List.Sorted.{IsStrictlySortedBy}
use Rattle.std.specs.declared.cmp.Ordering.TheVariants.{Less, Greater}
use Rattle.cidr.specs.either.IpNetwork.{any_bits}
use Rattle.cidr.specs.model.Bits.{bit_cmp}
use Rattle.cidr.specs.model.Network.{BeginsWith}
use Rattle.cidr_table.specs.model.Prefixes.{IsLongestAt, IsLongestMatch}
use Rattle.cidr_c.specs.calls.Calls.{IsAnyValue, IsSought}
use Rattle.cidr_rows.specs.Around.{AreCovering}
use Rattle.cidr_rows.specs.Lengths.{AreLengths}
use Rattle.cidr_rows.specs.Moved.{with_row, without_row}
use Rattle.cidr_c.specs.model.Codes.{no_room, no_such, no_value, present}
use Rattle.cidr_c.specs.model.Values.{IsNetworkValue, network_in}
use Rattle.cidr_c.specs.declared.values.CValue.{CValue}

-- their bits
abbrev pub rows_bits : List CValue → List (List Bool)
rows_bits networks = map any_bits (map network_in networks)

-- each comes before those behind it
abbrev pub Ascend : List CValue → Type 0
Ascend networks = IsStrictlySortedBy bit_cmp (rows_bits networks)

-- they do, and have only lengths that there may be
abbrev pub AscendWith : List CValue → List ℕ → Type 0
AscendWith networks lengths = Ascend networks × AreLengths any_bits (map network_in networks) lengths

-- the networks before the index come before the asked one, and those from there on behind it
pub record BelongsBefore (networks : List CValue) (asked : CValue) (index : ℕ) : Type 0 where
  pub before : (i : ℕ) → i < index → bit_cmp (slice_index_or (rows_bits networks) i (any_bits (network_in asked))) (any_bits (network_in asked)) ≡ Less
  pub behind : (i : ℕ) → index ≤ i → i < length networks
      → bit_cmp (slice_index_or (rows_bits networks) i (any_bits (network_in asked))) (any_bits (network_in asked)) ≡ Greater

-- finding: 0 and the index of the network; or the number of none, and where it belongs; or the number of what the call does not
-- take, and the index is as it was
pub record IsPlaceFound (networks : List CValue) (asked : CValue) (index index_new code : ℕ) : Type 0 where
  pub taken : code ≢ no_value → IsNetworkValue asked × (index_new ≤ length networks)
  pub within : code ≡ 0 → index_new < length networks
  pub here : code ≡ 0 → Ascend networks → slice_index_or (map network_in networks) index_new (network_in asked) ≡ network_in asked
  pub none : code ≡ no_such → Ascend networks → BelongsBefore networks asked index_new
  pub refused : code ≡ no_value → ¬ (IsNetworkValue asked) × (index_new ≡ index)
  pub codes : (code ≡ 0) ⊎ ((code ≡ no_such) ⊎ (code ≡ no_value))

-- the longest match: 0 and its index; or the number of none, or of what the call does not take, and the index is as it was
abbrev pub IsLongestFound : List CValue → List ℕ → CValue → ℕ → ℕ → ℕ → Type 0
IsLongestFound networks lengths asked =
    IsSought (IsNetworkValue asked)
    (AscendWith networks lengths → IsLongestMatch any_bits (any_bits (network_in asked)) (map network_in networks) None)
    IsAnyValue (λ (i : ℕ). i)
    (λ i. (i < length networks) × (AscendWith networks lengths → IsLongestAt any_bits (any_bits (network_in asked)) (map network_in networks) i))

-- what is in a network: 0, and the networks from the first index on and before the second; or the number of what the call does
-- not take, and the indexes are as they were
pub record AreCovered (networks : List CValue) (outer : CValue) (old new : ℕ × ℕ) (code : ℕ) : Type 0 where
  pub taken : code ≡ 0 → IsNetworkValue outer × (new.0 ≤ new.1) × (new.1 ≤ length networks)
  pub inside : code ≡ 0 → Ascend networks → (i : ℕ) → i < length networks
      → BeginsWith (any_bits (slice_index_or (map network_in networks) i (network_in outer))) (any_bits (network_in outer))
      ↔ ((new.0 ≤ i) × (i < new.1))
  pub refused : code ≢ 0 → (code ≡ no_value) × (¬ (IsNetworkValue outer)) × (new ≡ old)

-- the networks that a network is in: 0, and their indexes, ascending, at the front of the caller's room; or the number of what the call
-- does not take; or of too little room, and the count is how many they are. After an error the room is as it was
pub record AreCoveringFound (networks : List CValue) (asked : CValue) (old new : List ℕ) (count count_new code : ℕ) : Type 0 where
  pub taken : code ≡ 0 → IsNetworkValue asked × (count_new ≤ length old)
  pub within : code ≡ 0 → All (λ i. i < length networks) (take count_new new)
  pub exact : code ≡ 0 → Ascend networks → AreCovering any_bits (any_bits (network_in asked)) (map network_in networks) (take count_new new)
  pub behind : code ≡ 0 → drop count_new new ≡ drop count_new old
  pub room : code ≡ no_room → IsNetworkValue asked × (length old < count_new)
      × (Ascend networks → (indexes : List ℕ) × (count_new ≡ length indexes)
      × AreCovering any_bits (any_bits (network_in asked)) (map network_in networks) indexes)
  pub refused : code ≡ no_value → ¬ (IsNetworkValue asked) × (count_new ≡ count)
  pub codes : (code ≡ 0) ⊎ ((code ≡ no_room) ⊎ (code ≡ no_value))
  pub stays : code ≢ 0 → new ≡ old

-- one more network among the first `count`, of a length that there may be: 0, the array with it and its index, before which all come
-- before it, and from which on all come behind it; or the number of one that stands there already, and its index; or the number of another error. After an error
-- all else is as it was
pub record IsRowInserted (networks new : List CValue) (lengths lengths_new : List ℕ) (count count_new : ℕ) (network : CValue) (index index_new code : ℕ) : Type 0 where
  pub taken : (code ≡ 0) ⊎ (code ≡ present) → IsNetworkValue network × (count ≤ length networks)
  pub put : code ≡ 0 → (index_new ≤ count) × (count < length networks) × (new ≡ with_row networks count index_new network)
      × (count_new ≡ count + 1)
  pub added : code ≡ 0 → lengths_new ≡ slice_set lengths (length (any_bits (network_in network))) 1
  pub place : code ≡ 0 → Ascend (take count networks) → BelongsBefore (take count networks) network index_new
  pub within : code ≡ present → index_new < count
  pub here : code ≡ present → Ascend (take count networks)
      → slice_index_or (map network_in (take count networks)) index_new (network_in network) ≡ network_in network
  pub room : code ≡ no_room → (length networks < count) ⊎ (IsNetworkValue network × (length networks ≡ count)
      × (Ascend (take count networks) → (i : ℕ) × BelongsBefore (take count networks) network i))
  pub refused : code ≡ no_value → ¬ (IsNetworkValue network)
  pub codes : (code ≡ 0) ⊎ ((code ≡ present) ⊎ ((code ≡ no_room) ⊎ (code ≡ no_value)))
  pub stays : code ≢ 0 → (new ≡ networks) × (lengths_new ≡ lengths) × (count_new ≡ count)
  pub index_stays : code ≢ 0 → code ≢ present → index_new ≡ index

-- one less: 0, the array without it, and the index where it stood; or the number of none, or of another error, and all is as it was
pub record IsRowRemoved (networks new : List CValue) (count count_new : ℕ) (network : CValue) (index index_new code : ℕ) : Type 0 where
  pub taken : code ≡ 0 → IsNetworkValue network × (count ≤ length networks)
  pub gone : code ≡ 0 → (index_new < count) × (new ≡ without_row networks count index_new) × (count_new + 1 ≡ count)
  pub here : code ≡ 0 → Ascend (take count networks)
      → slice_index_or (map network_in (take count networks)) index_new (network_in network) ≡ network_in network
  pub none : code ≡ no_such → IsNetworkValue network
      × (Ascend (take count networks) → (i : ℕ) × BelongsBefore (take count networks) network i)
  pub room : code ≡ no_room → length networks < count
  pub refused : code ≡ no_value → ¬ (IsNetworkValue network)
  pub codes : (code ≡ 0) ⊎ ((code ≡ no_such) ⊎ ((code ≡ no_room) ⊎ (code ≡ no_value)))
  pub stays : code ≢ 0 → (new ≡ networks) × (count_new ≡ count) × (index_new ≡ index)
