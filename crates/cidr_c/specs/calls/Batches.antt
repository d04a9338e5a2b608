-- What calls on many values return and leave.
use Rattle.std.specs.Prelude.{◌≡◌, ◌≢◌, ◌⊎◌, ◌↔◌, ℕ, ◌<◌, ◌≤◌, Bool, List, All, Contains, drop, map, length, take, Result, Ok, Err}
use Rattle.std.specs.List.Sorted.{IsStrictlyIncreasing}
use Rattle.cidr.specs.either.IpNetwork.{any_bits}
use Rattle.cidr.specs.declared.cidr.any.AnyIpCidr.{AnyIpCidr}
use Rattle.cidr_table.specs.model.Cover.{Covers}
use Rattle.cidr_sets.specs.model.Sets.{IsSetOf}
use Rattle.cidr_c.specs.calls.Calls.{IsYesOrNo}
use Rattle.cidr_c.specs.model.Codes.{no_memory, no_room, no_value}
use Rattle.cidr_c.specs.model.Values.{IsNetworkValue, network_in}
use Rattle.cidr_c.specs.declared.values.CValue.{CValue}

-- each value is a network
abbrev pub AreNetworkValues : List CValue → Type 0
AreNetworkValues values = All IsNetworkValue values

-- the networks that they are, by their bits
abbrev pub bits_in : List CValue → List (List Bool)
bits_in values = map (λ v. any_bits (network_in v)) values

-- what is left of the caller's networks: the first `count` of them are networks for which Holds is true, and what is
-- behind them stays; or there is an error, and all is as it was
pub record IsLeft (Holds : List (List Bool) → Type 0) (old new : List CValue) (count count_new : ℕ) (code : ℕ) : Type 0 where
  pub networks : code ≡ 0 → AreNetworkValues old
  pub fits : code ≡ 0 → count_new ≤ length old
  pub left : code ≡ 0 → AreNetworkValues (take count_new new)
  pub holds : code ≡ 0 → Holds (bits_in (take count_new new))
  pub behind : code ≡ 0 → drop count_new new ≡ drop count_new old
  pub value : code ≡ no_value → ¬ (AreNetworkValues old)
  pub codes : (code ≡ 0) ⊎ ((code ≡ no_value) ⊎ (code ≡ no_memory))
  pub stays : code ≢ 0 → (new ≡ old) × (count_new ≡ count)

-- a list in the caller's room: the first `count` of it are values, of which Holds is true; and what is behind them stays; or
-- there is an error, as for values that the call does not take, and the room is as it was. Where there is too little of it,
-- the count tells how long the list is
pub record IsListInRoom {P A : Type 0} (IsTaken : Type 0) (IsValue : P → Type 0) (value_in : P → A) (Holds : List A → Type 0)
    (old new : List P) (count count_new code : ℕ) : Type 0 where
  pub taken : code ≡ 0 → IsTaken
  pub fits : code ≡ 0 → count_new ≤ length old
  pub left : code ≡ 0 → All IsValue (take count_new new)
  pub holds : code ≡ 0 → Holds (map value_in (take count_new new))
  pub value : code ≡ no_value → ¬ IsTaken
  pub behind : code ≡ 0 → drop count_new new ≡ drop count_new old
  pub room : code ≡ no_room → (length old < count_new) × (list : List A) × Holds list × (count_new ≡ length list)
  pub asked : code ≡ no_room → IsTaken
  pub codes : (code ≡ 0) ⊎ ((code ≡ no_value) ⊎ ((code ≡ no_room) ⊎ (code ≡ no_memory)))
  pub stays : code ≢ 0 → new ≡ old
  pub count_stays : code ≢ 0 → code ≢ no_room → count_new ≡ count

-- the same of a set, as a list of networks
abbrev pub IsPutInRoom : Type 0 → (List (List Bool) → Type 0) → List CValue → List CValue → ℕ → ℕ → ℕ → Type 0
IsPutInRoom IsTaken Holds = IsListInRoom IsTaken IsNetworkValue (λ v. any_bits (network_in v)) Holds

-- the indexes of which Holds is true, ascending, in the caller's room, and what is behind them stays; or there is an error, as for values
-- that the call does not take, and the room is as it was. Where there is too little of it, the count tells how many they are
pub record AreIndexesSought (IsTaken : Type 0) (Holds : ℕ → Type 0) (old new : List ℕ) (count count_new code : ℕ) : Type 0 where
  pub taken : code ≡ 0 → IsTaken
  pub fits : code ≡ 0 → count_new ≤ length old
  pub exact : code ≡ 0 → (i : ℕ) → Contains (take count_new new) i ↔ Holds i
  pub ascending : code ≡ 0 → IsStrictlyIncreasing (take count_new new)
  pub behind : code ≡ 0 → drop count_new new ≡ drop count_new old
  pub value : code ≡ no_value → ¬ IsTaken
  pub room : code ≡ no_room → IsTaken × (length old < count_new) × (indexes : List ℕ) × (count_new ≡ length indexes)
      × ((i : ℕ) → Contains indexes i ↔ Holds i) × IsStrictlyIncreasing indexes
  pub codes : (code ≡ 0) ⊎ ((code ≡ no_value) ⊎ ((code ≡ no_room) ⊎ (code ≡ no_memory)))
  pub stays : code ≢ 0 → new ≡ old
  pub count_stays : code ≢ 0 → code ≢ no_room → count_new ≡ count

-- two lists, each of networks
abbrev pub AreBothNetworks : List CValue → List CValue → Type 0
AreBothNetworks these those = AreNetworkValues these × AreNetworkValues those

-- the set of the addresses of some values that are networks, or the number of the error
abbrev pub IsSetRead : List CValue → Result (List AnyIpCidr) ℕ → Type 0
IsSetRead values (Ok set) =
    AreNetworkValues values × IsSetOf 129 (Covers (bits_in values)) (map any_bits set) × (length set ≤ length values)
IsSetRead values (Err code) = ((code ≡ no_value) × ¬ (AreNetworkValues values)) ⊎ (code ≡ no_memory)

-- the same of two lists
abbrev pub AreSetsRead : List CValue → List CValue → Result (List AnyIpCidr × List AnyIpCidr) ℕ → Type 0
AreSetsRead these those (Ok (one, other)) = IsSetRead these (Ok one) × IsSetRead those (Ok other)
AreSetsRead these those (Err code) = ((code ≡ no_value) × ¬ (AreBothNetworks these those)) ⊎ (code ≡ no_memory)

-- a set in the caller's room, or the number of the error
abbrev pub IsDelivered : {E : Type 0} → Result (List AnyIpCidr) E → List CValue → List CValue → ℕ → ℕ → ℕ → Type 0
IsDelivered (Ok set) old new count count_new code =
    ((code ≡ 0) × (count_new ≡ length set) × (length set ≤ length old) × AreNetworkValues (take count_new new)
    × (map network_in (take count_new new) ≡ set) × (drop count_new new ≡ drop count_new old))
    ⊎ ((code ≡ no_room) × (count_new ≡ length set) × (length old < length set) × (new ≡ old))
IsDelivered (Err e) old new count count_new code = (code ≡ no_memory) × (new ≡ old) × (count_new ≡ count)

-- an answer about networks, 1 for yes and 0 for no; or the number of the error, and then the place of the answer is as it was
pub record IsAnswered (IsTaken Holds : Type 0) (old new code : ℕ) : Type 0 where
  pub taken : code ≡ 0 → IsTaken
  pub answer : code ≡ 0 → IsYesOrNo new Holds
  pub value : code ≡ no_value → ¬ IsTaken
  pub codes : (code ≡ 0) ⊎ ((code ≡ no_value) ⊎ (code ≡ no_memory))
  pub stays : code ≢ 0 → new ≡ old

-- ---- what private functions promise each other
-- a list in the caller's room, or how long it is
abbrev pub IsListPut : {P : Type 0} → List P → List P → List P → ℕ → ℕ → Type 0
IsListPut list old new count_new code =
    (count_new ≡ length list)
    × (((code ≡ 0) × (length list ≤ length old) × (take (length list) new ≡ list) × (drop (length list) new ≡ drop (length list) old))
    ⊎ ((code ≡ no_room) × (length old < length list) × (new ≡ old)))

-- networks in the caller's room, or how many they are
abbrev pub IsNetworksPut : List AnyIpCidr → List CValue → List CValue → ℕ → ℕ → Type 0
IsNetworksPut networks old new count_new code =
    (count_new ≡ length networks)
    × (((code ≡ 0) × (length networks ≤ length old) × AreNetworkValues (take count_new new)
    × (map network_in (take count_new new) ≡ networks) × (drop count_new new ≡ drop count_new old))
    ⊎ ((code ≡ no_room) × (length old < length networks) × (new ≡ old)))
