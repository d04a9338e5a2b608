-- Lists of networks in order, by their indexes, and the network that stands nearest around each.
use Rattle.std.specs.Prelude.{◌≡◌, ◌≢◌, ◌⊎◌, ℕ, ◌<◌, ◌≤◌, List, length, map, slice_get, Some}
use Rattle.std.specs.List.Sorted.{IsPermutation}
use Rattle.cidr.specs.either.IpNetwork.{any_bits}
use Rattle.cidr.specs.model.Network.{BeginsWith}
use Rattle.cidr.specs.declared.cidr.any.AnyIpCidr.{AnyIpCidr}
use Rattle.cidr_lists.specs.Nearness.{AreRowsInOrder}
use Rattle.cidr_table.specs.model.LastRows.{AreLastRows}
use Rattle.cidr_table.specs.model.Loading.{placed}
use Rattle.cidr_c.specs.calls.Batches.{AreNetworkValues, IsListInRoom}
use Rattle.cidr_c.specs.calls.Calls.{IsAnyValue}
use Rattle.cidr_c.specs.calls.Lookups.{AreAllAnswered, no_index}
use Rattle.cidr_c.specs.model.Values.{network_in}
use Rattle.cidr_c.specs.declared.values.CValue.{CValue}

-- the indexes of rows of networks with their indexes, in the order of the networks, and of equal ones in that of the list
abbrev pub AreIndexesOf : (List (AnyIpCidr × ℕ) → Type 0) → List ℕ → Type 0
AreIndexesOf Holds indexes = (rows : List (AnyIpCidr × ℕ)) × Holds rows × AreRowsInOrder any_bits rows × (indexes ≡ map (λ row. row.1) rows)

-- those of all networks of the list, each once
abbrev pub IsSortOrder : List AnyIpCidr → List ℕ → Type 0
IsSortOrder networks = AreIndexesOf (λ rows. IsPermutation (placed 0 networks) rows)

-- those of each network, where it repeats the last one, as the rows of a table
abbrev pub IsTableOrder : List AnyIpCidr → List ℕ → Type 0
IsTableOrder networks = AreIndexesOf (λ rows. AreLastRows (placed 0 networks) rows)

-- such indexes in the caller's room
abbrev pub AreIndexesPut : (List AnyIpCidr → List ℕ → Type 0) → List CValue → List ℕ → List ℕ → ℕ → ℕ → ℕ → Type 0
AreIndexesPut Holds values = IsListInRoom (AreNetworkValues values) IsAnyValue (λ (i : ℕ). i) (Holds (map network_in values))

-- the other network contains this one, and is larger
abbrev pub IsAround : AnyIpCidr → AnyIpCidr → Type 0
IsAround network other = BeginsWith (any_bits network) (any_bits other) × (length (any_bits other) < length (any_bits network))

-- the index of the smallest network around this one, where it repeats the last one; or that which stands for none
abbrev pub IsNearestIndex : List AnyIpCidr → AnyIpCidr → ℕ → Type 0
IsNearestIndex networks network index =
    ((outer : AnyIpCidr) × (slice_get networks index ≡ Some outer) × IsAround network outer
    × ((i : ℕ) (other : AnyIpCidr) → slice_get networks i ≡ Some other → IsAround network other
    → length (any_bits other) ≤ length (any_bits outer))
    × ((other : ℕ) → index < other → slice_get networks other ≢ Some outer))
    ⊎ ((index ≡ no_index)
    × ((i : ℕ) (other : AnyIpCidr) → slice_get networks i ≡ Some other → ¬ (IsAround network other)))

-- each network of the list has its own
abbrev pub AreNearestIndexes : List CValue → List ℕ → List ℕ → ℕ → Type 0
AreNearestIndexes values = AreAllAnswered (IsNearestIndex (map network_in values)) values values
