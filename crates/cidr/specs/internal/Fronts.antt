-- What the readers of compact bytes promise each other.
use Rattle.std.specs.Prelude.{◌≡◌, ℕ, ◌<◌, Bool, List, ◌++◌, length, Option, MatchOption, Result, MatchResult}
use Rattle.cidr.specs.model.Address.{parts_of}
use Rattle.cidr.specs.model.Host.{host_of}
use Rattle.cidr.specs.model.Network.{width_of}
use Rattle.cidr.specs.bytes.Compact.{octet_count}
use Rattle.cidr.specs.bytes.CompactRefusal.{HasHost, HasAny, Only, IsNetworkBytesRefused, IsHostBytesRefused}
use Rattle.cidr.specs.declared.compact.front.Front.{Front}
use Rattle.cidr.specs.declared.compact.front.Front.TheVariants.{Any, V4, V6}
use Rattle.cidr.specs.declared.errors.CompactError.{CompactError}
use Rattle.cidr.specs.declared.errors.CompactError.TheVariants as compact_error
use Rattle.cidr.specs.declared.family.Family.{Family}
use Rattle.cidr.specs.declared.family.Family.TheVariants.{Ipv4, Ipv6}

-- the octets of this address of the family come first
abbrev pub HasOctets : Family → List ℕ → List Bool → Type 0
HasOctets family octets a =
    (length a ≡ width_of family) × (rest : List ℕ) × (octets ≡ parts_of 8 (octet_count family) a ++ rest)

-- the address whose octets come first, or there are too few
abbrev pub TakesOctets : Family → List ℕ → Option (List Bool) → Type 0
TakesOctets family octets r = MatchOption r (length octets < octet_count family) (HasOctets family octets)

-- what comes first
abbrev pub IsFront : List ℕ → Front → Type 0
IsFront input Any = HasAny input
IsFront input (V4 a n) = HasHost Ipv4 input (host_of a n)
IsFront input (V6 a n) = HasHost Ipv6 input (host_of a n)

-- an error whatever families are taken
abbrev pub IsUnreadable : List ℕ → CompactError → Type 0
IsUnreadable input compact_error.Truncated = IsNetworkBytesRefused (Only Ipv4) input compact_error.Truncated
IsUnreadable input compact_error.InvalidTag = IsNetworkBytesRefused (Only Ipv4) input compact_error.InvalidTag
IsUnreadable input compact_error.InvalidAny = ⊥
IsUnreadable input (compact_error.InvalidFamily family) = ⊥
IsUnreadable input compact_error.InvalidHostPart = ⊥

abbrev pub ReadsFront : List ℕ → Result Front CompactError → Type 0
ReadsFront input r = MatchResult r (IsFront input) (IsUnreadable input)

-- the address and the length of the host of the family that comes first, or the error
abbrev pub TakesHost : Family → List ℕ → Result (List Bool × ℕ) CompactError → Type 0
TakesHost family input r = MatchResult r (λ p. HasHost family input (host_of p.0 p.1)) (IsHostBytesRefused (Only family) input)
