-- Texts of values: with all digits of IPv6, with masks of hosts, the names of zones in reverse DNS, and what is wrong with a
-- string.
use Rattle.std.specs.Prelude.{◌≡◌, ◌⊎◌, ℕ, ◌/◌, ◌%◌, Bool, List, [], ◌∷◌, ◌++◌, length, map, slice_get, Option, MatchOption, IsUtf8}
use Rattle.std.specs.Char.{digit_char}
use Rattle.std.specs.List.{join_with_byte}
use Rattle.cidr.specs.either.IpHost.{host_address, host_network}
use Rattle.cidr.specs.either.IpNetwork.{address_by}
use Rattle.cidr.specs.model.Address.{groups_of}
use Rattle.cidr.specs.model.Host.{Host}
use Rattle.cidr.specs.texts.Ipv6Text.{colon}
use Rattle.cidr.specs.texts.NetworkText.{slash}
use Rattle.cidr.specs.texts.Printed.{length_text}
use Rattle.cidr.specs.texts.PrintedAddress.{ip_text, ipv4_text}
use Rattle.cidr.specs.declared.family.Family.{Family}
use Rattle.cidr.specs.declared.family.Family.TheVariants.{Ipv4, Ipv6}
use Rattle.cidr.specs.declared.inet.combined.IpInet.{IpInet}
use Rattle.cidr_ext.specs.texts.TextFaults.{HasNoFault, IsFirstFault, fault_message}
use Rattle.cidr_ext.specs.texts.Zones.{IsZoneLength, zones_of}
use Rattle.cidr_ext.specs.declared.text_faults.TextFault.{TextFault}
use Rattle.cidr_c.specs.calls.Calls.{IsPrintedInto, IsUnprinted}

-- the four hexadecimal digits of a group, with its leading zeros
unfoldable pub group_digits : ℕ → List ℕ
group_digits g = digit_char (g / 0x1000) ∷ digit_char (g / 0x100 % 16) ∷ digit_char (g / 0x10 % 16) ∷ digit_char (g % 16) ∷ []

-- an address with all its digits: in IPv6 the eight groups with colons between them, as RFC 4291, 2.2, 1 has them
abbrev pub exploded_text : Family → List Bool → List ℕ
exploded_text Ipv4 a = ipv4_text a
exploded_text Ipv6 a = join_with_byte colon (map group_digits (groups_of a))

-- the same of a host, with its prefix length
abbrev pub exploded_host_text : Family → Host → List ℕ
exploded_host_text family host = exploded_text family host.address ++ length_text host.len

-- the address of a host, a slash and this mask of its network
abbrev pub masked_host_text : (ℕ → List Bool → List Bool) → IpInet → List ℕ
masked_host_text mask host = ip_text (host_address host) ++ slash ∷ ip_text (address_by mask (host_network host))

-- the name of the zone of a network at an index, from 0 on, or none where it has no more zones than that
abbrev pub IsZoneAt : Family → List Bool → ℕ → Option (List ℕ) → Type 0
IsZoneAt family network index name =
    (len : ℕ) × IsZoneLength family (length network) len × (slice_get (zones_of family network len) index ≡ name)

-- printing it, if there is one
abbrev pub IsZonePrinted : Family → List Bool → ℕ → List ℕ → List ℕ → ℕ → Type 0
IsZonePrinted family network index old new len =
    (name : Option (List ℕ)) × IsZoneAt family network index name
    × MatchOption name (IsUnprinted old new len) (λ name. IsPrintedInto name old new len)

-- printing the message of the first fault of a string, if it is UTF-8 and has one
abbrev pub IsFaultPrinted : List ℕ → List ℕ → List ℕ → ℕ → Type 0
IsFaultPrinted text old new len =
    ((fault : TextFault) × IsUtf8 text × IsFirstFault text fault × IsPrintedInto (fault_message fault) old new len)
    ⊎ (((¬ (IsUtf8 text)) ⊎ HasNoFault text) × IsUnprinted old new len)
