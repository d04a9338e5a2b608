-- Entries of the registries of addresses for special purposes, as C has them.
use Rattle.std.specs.Prelude.{ℕ, ◌/◌, ◌%◌, ◌^◌, Bool, true, false, ◌&&◌, nat_le, Option, Some, None}
use Rattle.cidr_ext.specs.internal.Entries.{has_block}
use Rattle.cidr_ext.specs.declared.registry.Purpose.{Purpose}
use Rattle.cidr_ext.specs.declared.registry.Purpose.TheVariants as purpose
use Rattle.cidr_ext.specs.declared.registry.SpecialEntry.{SpecialEntry}
use Rattle.cidr_c.specs.declared.special.CSpecial.{CSpecial}

-- a column of the registry: 0 for no, 1 for yes, and 2 where it does not apply
abbrev pub column_code : Option Bool → ℕ
column_code (Some false) = 0
column_code (Some true) = 1
column_code None = 2

-- what a block is for
abbrev pub purpose_code : Purpose → ℕ
purpose_code purpose.ThisNetwork = 0
purpose_code purpose.Unspecified = 1
purpose_code purpose.PrivateUse = 2
purpose_code purpose.UniqueLocal = 3
purpose_code purpose.SharedAddressSpace = 4
purpose_code purpose.Loopback = 5
purpose_code purpose.LinkLocal = 6
purpose_code purpose.ProtocolAssignments = 7
purpose_code purpose.ServiceContinuity = 8
purpose_code purpose.Dummy = 9
purpose_code purpose.PortControlAnycast = 10
purpose_code purpose.TurnAnycast = 11
purpose_code purpose.ServiceRegistrationAnycast = 12
purpose_code purpose.Nat64Discovery = 13
purpose_code purpose.Documentation = 14
purpose_code purpose.As112 = 15
purpose_code purpose.DirectAs112 = 16
purpose_code purpose.MulticastTunneling = 17
purpose_code purpose.SixToFourRelay = 18
purpose_code purpose.SixA44Relay = 19
purpose_code purpose.SixToFour = 20
purpose_code purpose.Benchmarking = 21
purpose_code purpose.Reserved = 22
purpose_code purpose.LimitedBroadcast = 23
purpose_code purpose.Ipv4Mapped = 24
purpose_code purpose.Translation = 25
purpose_code purpose.DiscardOnly = 26
purpose_code purpose.Teredo = 27
purpose_code purpose.DeprecatedOrchid = 28
purpose_code purpose.OrchidV2 = 29
purpose_code purpose.DroneRemoteId = 30
purpose_code purpose.SegmentRouting = 31
purpose_code purpose.ThisHost = 32

-- an entry of a registry
abbrev pub special_of : SpecialEntry → CSpecial
special_of entry = record {
  high = entry.first / 2 ^ 64;
  low = entry.first % 2 ^ 64;
  rfc = entry.rfc;
  len = entry.len;
  purpose = purpose_code entry.purpose;
  source = column_code entry.source;
  destination = column_code entry.destination;
  forwardable = column_code entry.forwardable;
  globally_reachable = column_code entry.globally_reachable;
  reserved_by_protocol = column_code entry.reserved_by_protocol;
}

-- ---- what private functions promise each other
-- the network of the first len bits of an address of w bits, whose number is n, lies in the block
unfoldable pub has_network : ℕ → ℕ → ℕ → SpecialEntry → Bool
has_network w n len entry = has_block w n entry && nat_le entry.len len
