-- The error of an input that no value's compact bytes begin: the first of six, in the order no byte at all, a tag that
-- names nothing, too few octets, `any`, another family, a one in the host part. What comes before an error in this order
-- is ruled out where it is defined, so that an input has one.
use Rattle.std.specs.Prelude.{◌≡◌, ◌≢◌, ℕ, ◌-◌, ◌<◌, ◌≤◌, ◌⊎◌, ⊤, List, [], ◌∷◌, ◌++◌, length, drop}
use Rattle.cidr.specs.model.Host.{Host, IsHost}
use Rattle.cidr.specs.model.Network.{width_of, zeros}
use Rattle.cidr.specs.bytes.Compact.{tag_of, any_tag, octet_count, host_bytes}
use Rattle.cidr.specs.declared.errors.CompactError.{CompactError}
use Rattle.cidr.specs.declared.errors.CompactError.TheVariants as compact_error
use Rattle.cidr.specs.declared.family.Family.{Family}

-- the tag is of no prefix length of a family, and not that of `Any`
abbrev pub NamesNothing : ℕ → Type 0
NamesNothing tag = (tag ≢ any_tag) × ((family : Family) (n : ℕ) → n ≤ width_of family → tag ≢ tag_of family n)

-- a tag of the family comes first, and after it fewer octets than an address has
abbrev pub LacksOctets : Family → List ℕ → Type 0
LacksOctets family input =
    (n : ℕ) × (rest : List ℕ) × (n ≤ width_of family) × (input ≡ tag_of family n ∷ rest) × (length rest < octet_count family)

-- the compact bytes of this host come first
abbrev pub HasHost : Family → List ℕ → Host → Type 0
HasHost family input host = IsHost (width_of family) host × (rest : List ℕ) × (input ≡ host_bytes family host ++ rest)

-- the tag of `Any` comes first
abbrev pub HasAny : List ℕ → Type 0
HasAny input = (rest : List ℕ) × (input ≡ any_tag ∷ rest)

-- a type takes this family alone
abbrev pub Only : Family → Family → Type 0
Only family other = other ≡ family

-- a type takes both families
abbrev pub Both : Family → Type 0
Both family = ⊤

-- the error of an input for networks of the families that are taken (`Takes`)
abbrev pub IsNetworkBytesRefused : (Family → Type 0) → List ℕ → CompactError → Type 0
IsNetworkBytesRefused Takes input compact_error.Truncated = (input ≡ []) ⊎ ((family : Family) × LacksOctets family input)
IsNetworkBytesRefused Takes input compact_error.InvalidTag =
    (tag : ℕ) × (rest : List ℕ) × (input ≡ tag ∷ rest) × NamesNothing tag
IsNetworkBytesRefused Takes input compact_error.InvalidAny = HasAny input
IsNetworkBytesRefused Takes input (compact_error.InvalidFamily family) = (host : Host) × HasHost family input host × ¬ (Takes family)
IsNetworkBytesRefused Takes input compact_error.InvalidHostPart =
    (family : Family) × (host : Host) × HasHost family input host × Takes family
    × (drop host.len host.address ≢ zeros (width_of family - host.len))

-- the same for hosts: a set bit after the prefix is no error
abbrev pub IsHostBytesRefused : (Family → Type 0) → List ℕ → CompactError → Type 0
IsHostBytesRefused Takes input e = IsNetworkBytesRefused Takes input e × (e ≢ compact_error.InvalidHostPart)

-- the same for networks of either family and `Any`: the tag of `Any` is no error
abbrev pub IsAnyBytesRefused : List ℕ → CompactError → Type 0
IsAnyBytesRefused input e = IsNetworkBytesRefused Both input e × (e ≢ compact_error.InvalidAny)

-- an input has one error at most
abbrev pub HasOneError : {E : Type 0} → (List ℕ → E → Type 0) → Type 0
HasOneError {E} IsRefused = (input : List ℕ) (d e : E) → IsRefused input d → IsRefused input e → d ≡ e
