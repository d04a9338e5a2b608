-- Addresses for special purposes, by the IANA IPv4 and IPv6 Special-Purpose Address Registries (RFC 6890, 2.2). A block
-- may be inside another, and the longest one that contains an address is its entry.
use Rattle.std.specs.Prelude.{◌≡◌, ◌<◌, ◌⊎◌, Bool, true, List, ◌++◌, take, Some}
use Rattle.std.specs.List.{Contains}
use Rattle.cidr.specs.model.Bits.{bits}
use Rattle.cidr.specs.model.Network.{width_of, zeros, ones, BeginsWith}
use Rattle.cidr.specs.declared.family.Family.{Family}
use Rattle.cidr.specs.declared.family.Family.TheVariants.{Ipv4, Ipv6}
use Rattle.cidr_ext.specs.declared.registry.Purpose.{Purpose}
use Rattle.cidr_ext.specs.declared.registry.SpecialEntry.{SpecialEntry}
use Rattle.cidr_ext.specs.declared.registry.TheConstants.{IPV4_ENTRIES, IPV6_ENTRIES}

-- the registry of a family
unfoldable pub entries_of : Family → List SpecialEntry
entries_of Ipv4 = IPV4_ENTRIES
entries_of Ipv6 = IPV6_ENTRIES

-- the block of an entry: the first bits of its first address
abbrev pub block_of : Family → SpecialEntry → List Bool
block_of family entry = take entry.len (bits (width_of family) entry.first)

-- no block contains the address
abbrev pub HasNoEntry : Family → List Bool → Type 0
HasNoEntry family a = (entry : SpecialEntry) → Contains (entries_of family) entry → ¬ (BeginsWith a (block_of family entry))

-- the entry of an address: its block contains the address, and any other that does is shorter
pub record IsEntryOf (family : Family) (a : List Bool) (entry : SpecialEntry) : Type 0 where
  pub listed : Contains (entries_of family) entry
  pub within : BeginsWith a (block_of family entry)
  pub longest : (other : SpecialEntry) → Contains (entries_of family) other → BeginsWith a (block_of family other)
      → (other ≡ entry) ⊎ (other.len < entry.len)

-- the address has an entry, of this purpose
abbrev pub HasPurpose : Purpose → Family → List Bool → Type 0
HasPurpose purpose family a = (entry : SpecialEntry) × IsEntryOf family a entry × (entry.purpose ≡ purpose)

-- the entry of the address, if it has one, says that it is globally reachable
abbrev pub IsGlobal : Family → List Bool → Type 0
IsGlobal family a = (entry : SpecialEntry) → IsEntryOf family a entry → entry.globally_reachable ≡ Some true

-- 224.0.0.0/4 (RFC 5771) and ff00::/8 (RFC 4291, 2.7)
abbrev pub multicast_of : Family → List Bool
multicast_of Ipv4 = ones 3 ++ zeros 1
multicast_of Ipv6 = ones 8
