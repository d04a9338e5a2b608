-- What addresses are for, by the IANA IPv4 and IPv6 Special-Purpose Address Registries (RFC 6890), as it is printed. The entry of
-- an address is that of the longest block that has it, so that a registry is looked up as a table is.
use Rattle.std.specs.Prelude.{◌≡◌, ℕ, Bool, true, false, List, ◌++◌, codes, decimal, is_some, map, Option, Some, None}
use Rattle.cidr.specs.either.IpAddress.{address_family, plain_bits}
use Rattle.cidr.specs.texts.Printed.{plain_text}
use Rattle.cidr.specs.declared.addr.ip.IpAddr.{IpAddr}
use Rattle.cidr.specs.declared.family.Family.{Family}
use Rattle.cidr_ext.specs.model.Special.{block_of, entries_of}
use Rattle.cidr_ext.specs.declared.registry.Purpose.{Purpose}
use Rattle.cidr_ext.specs.declared.registry.Purpose.TheVariants as purpose
use Rattle.cidr_ext.specs.declared.registry.SpecialEntry.{SpecialEntry}
use Rattle.cidr_lists.specs.LookUps.{look_line}
use Rattle.cidr_table.specs.model.Prefixes.{IsLookedUp}

-- ---- entries
-- what a block is for, in the words of the registries, joined by hyphens
abbrev pub purpose_name : Purpose → List ℕ
purpose_name purpose.ThisNetwork = codes "This-Network"
purpose_name purpose.ThisHost = codes "This-Host-On-This-Network"
purpose_name purpose.Unspecified = codes "Unspecified"
purpose_name purpose.PrivateUse = codes "Private-Use"
purpose_name purpose.UniqueLocal = codes "Unique-Local"
purpose_name purpose.SharedAddressSpace = codes "Shared-Address-Space"
purpose_name purpose.Loopback = codes "Loopback"
purpose_name purpose.LinkLocal = codes "Link-Local"
purpose_name purpose.ProtocolAssignments = codes "IETF-Protocol-Assignments"
purpose_name purpose.ServiceContinuity = codes "IPv4-Service-Continuity"
purpose_name purpose.Dummy = codes "Dummy"
purpose_name purpose.PortControlAnycast = codes "PCP-Anycast"
purpose_name purpose.TurnAnycast = codes "TURN-Anycast"
purpose_name purpose.ServiceRegistrationAnycast = codes "DNS-SD-SRP-Anycast"
purpose_name purpose.Nat64Discovery = codes "NAT64/DNS64-Discovery"
purpose_name purpose.Documentation = codes "Documentation"
purpose_name purpose.As112 = codes "AS112"
purpose_name purpose.DirectAs112 = codes "Direct-Delegation-AS112"
purpose_name purpose.MulticastTunneling = codes "AMT"
purpose_name purpose.SixToFourRelay = codes "Deprecated-6to4-Relay-Anycast"
purpose_name purpose.SixA44Relay = codes "6a44-Relay-Anycast"
purpose_name purpose.SixToFour = codes "6to4"
purpose_name purpose.Benchmarking = codes "Benchmarking"
purpose_name purpose.Reserved = codes "Reserved"
purpose_name purpose.LimitedBroadcast = codes "Limited-Broadcast"
purpose_name purpose.Ipv4Mapped = codes "IPv4-Mapped"
purpose_name purpose.Translation = codes "IPv4-IPv6-Translation"
purpose_name purpose.DiscardOnly = codes "Discard-Only"
purpose_name purpose.Teredo = codes "TEREDO"
purpose_name purpose.DeprecatedOrchid = codes "Deprecated-ORCHID"
purpose_name purpose.OrchidV2 = codes "ORCHIDv2"
purpose_name purpose.DroneRemoteId = codes "Drone-Remote-ID"
purpose_name purpose.SegmentRouting = codes "SRv6-SIDs"

-- the column "Globally Reachable", which has no answer for some blocks
abbrev pub reach_name : Option Bool → List ℕ
reach_name (Some true) = codes "global"
reach_name (Some false) = codes "not-global"
reach_name None = codes "n/a"

-- the month of the registries that the entries are of
abbrev pub registry_date : List ℕ
registry_date = codes "2025-05"

-- what is told of an entry: its purpose, the RFC, whether its addresses are globally reachable, and the date of the registries
abbrev pub entry_text : SpecialEntry → List ℕ
entry_text entry = purpose_name entry.purpose ++ (codes " RFC" ++ (decimal entry.rfc
    ++ (codes " " ++ (reach_name entry.globally_reachable ++ (codes " " ++ registry_date)))))

-- an entry as a row of a table
abbrev pub entry_row : Family → SpecialEntry → List Bool × List ℕ
entry_row family entry = (block_of family entry, entry_text entry)

-- the registry of a family as a table
abbrev pub registry : Family → List (List Bool × List ℕ)
registry family = map (entry_row family) (entries_of family)

-- ---- addresses
-- what is told of an address behind itself: the block of its entry and the entry, or a hyphen where it has none
abbrev pub class_text : Family → Option (List Bool × List ℕ) → List ℕ
class_text family None = codes "-"
class_text family (Some (p, value)) = plain_text family p ++ (codes " " ++ value)

-- the same, where it was looked up in its registry, and whether it has an entry
abbrev pub HasClass : IpAddr → List ℕ → Bool → Type 0
HasClass address text found = (row : Option (List Bool × List ℕ))
    × IsLookedUp (λ (p : List Bool). p) (plain_bits address) (registry (address_family address)) row
    × (text ≡ class_text (address_family address) row) × (found ≡ is_some row)

-- the line of an address that was looked up in its registry, and whether it has an entry
abbrev pub IsClassLine : IpAddr → List ℕ → Bool → Type 0
IsClassLine address line found = (row : Option (List Bool × List ℕ))
    × IsLookedUp (λ (p : List Bool). p) (plain_bits address) (registry (address_family address)) row
    × (line ≡ look_line (Some (record { address = address; found = row }))) × (found ≡ is_some row)
