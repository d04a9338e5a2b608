-- Look-ups of many networks.
use Rattle.std.specs.Prelude.{◌≡◌, ◌≢◌, ◌<◌, ◌≤◌, ◌⊎◌, ℕ, ◌-◌, ◌^◌, Bool, List, drop, length, map, slice_get, Some, None}
use Rattle.cidr.specs.either.IpNetwork.{any_bits}
use Rattle.cidr.specs.model.Network.{BeginsWith}
use Rattle.cidr.specs.declared.cidr.any.AnyIpCidr.{AnyIpCidr}
use Rattle.cidr_table.specs.model.Cover.{IsFull}
use Rattle.cidr_table.specs.model.LastRows.{AreLastRows}
use Rattle.cidr_table.specs.model.Loading.{placed}
use Rattle.cidr_table.specs.model.Prefixes.{IsLongestAt, IsLongestMatch}
use Rattle.cidr_c.specs.calls.Batches.{AreIndexesSought, AreNetworkValues, bits_in}
use Rattle.cidr_c.specs.calls.Calls.{IsYesOrNo}
use Rattle.cidr_c.specs.model.Codes.{no_memory, no_room, no_value}
use Rattle.cidr_c.specs.model.Values.{IsNetworkValue, network_in}
use Rattle.cidr_c.specs.declared.values.CValue.{CValue}

-- for each of the asked values, which is a network, its answer stands at the same index
abbrev pub AreAnswered : (AnyIpCidr → ℕ → Type 0) → List CValue → List ℕ → Type 0
AreAnswered Answers asked out =
    (i : ℕ) (v : CValue) → slice_get asked i ≡ Some v
    → IsNetworkValue v × (answer : ℕ) × (slice_get out i ≡ Some answer) × Answers (network_in v) answer

-- where there is no error, each asked value has its answer; when each error comes: first for a value that is no network,
-- then for too little room, then for an asked value; nothing is written but for the last; and what is behind the answers
-- stays
pub record AreAllAnswered (Answers : AnyIpCidr → ℕ → Type 0) (values asked : List CValue) (old out : List ℕ) (code : ℕ) : Type 0 where
  pub networks : code ≡ 0 → AreNetworkValues values
  pub answers : code ≡ 0 → AreAnswered Answers asked out
  pub value : code ≡ no_value → ¬ (AreNetworkValues values) ⊎ ((length asked ≤ length out) × ¬ (AreNetworkValues asked))
  pub room : code ≡ no_room → AreNetworkValues values × (length out < length asked)
  pub codes : (code ≡ 0) ⊎ ((code ≡ no_value) ⊎ ((code ≡ no_room) ⊎ (code ≡ no_memory)))
  pub behind : drop (length asked) out ≡ drop (length asked) old
  pub stays : (code ≡ no_room) ⊎ (code ≡ no_memory) → out ≡ old
  pub refused : ¬ (AreNetworkValues values) → out ≡ old

-- each answer is whether all addresses of the asked network are in the networks
abbrev pub AreContained : List CValue → List CValue → List ℕ → List ℕ → ℕ → Type 0
AreContained values = AreAllAnswered (λ n answer. IsYesOrNo answer (IsFull 129 (bits_in values) (any_bits n))) values

-- the index that stands for none
abbrev pub no_index : ℕ
no_index = 2 ^ 64 - 1

-- the index of the longest network that the asked one is in, where it repeats the last one; or that which stands for none,
-- where it is in no network
abbrev pub IsLongestIndex : List AnyIpCidr → AnyIpCidr → ℕ → Type 0
IsLongestIndex networks asked index =
    (IsLongestAt any_bits (any_bits asked) networks index
    × ((other : ℕ) → index < other → slice_get networks other ≢ slice_get networks index))
    ⊎ ((index ≡ no_index) × IsLongestMatch any_bits (any_bits asked) networks None)

-- each answer is the index of the longest match
abbrev pub AreLongestIndexes : List CValue → List CValue → List ℕ → List ℕ → ℕ → Type 0
AreLongestIndexes values = AreAllAnswered (IsLongestIndex (map network_in values)) values

-- the network at this index is one of which this holds beside the asked one
abbrev pub IsRelatedAt : (List Bool → List Bool → Type 0) → List CValue → List Bool → ℕ → Type 0
IsRelatedAt Holds networks asked index = (v : CValue) × (slice_get networks index ≡ Some v) × Holds (any_bits (network_in v)) asked

-- a network contains the asked one, or lies in it
abbrev pub ContainsAsked : List Bool → List Bool → Type 0
ContainsAsked network asked = BeginsWith asked network

abbrev pub LiesInAsked : List Bool → List Bool → Type 0
LiesInAsked network asked = BeginsWith network asked

-- the indexes of all such networks, ascending
abbrev pub AreRelatedPut : (List Bool → List Bool → Type 0) → List CValue → CValue → List ℕ → List ℕ → ℕ → ℕ → ℕ → Type 0
AreRelatedPut Holds networks asked =
    AreIndexesSought (AreNetworkValues networks × IsNetworkValue asked) (IsRelatedAt Holds networks (any_bits (network_in asked)))

-- ---- what private functions promise each other
-- of the networks with their indexes the last of each
abbrev pub AreIndexed : List AnyIpCidr → List (AnyIpCidr × ℕ) → Type 0
AreIndexed networks rows = AreLastRows (placed 0 networks) rows
