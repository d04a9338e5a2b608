-- The messages of the errors, byte for byte (the crate `cidr` and std).
use Rattle.std.specs.Prelude.{ℕ, List, ◌++◌, codes, decimal, Some, None}
use Rattle.cidr.specs.declared.family.Family.{Family}
use Rattle.cidr.specs.declared.family.Family.TheVariants.{Ipv4, Ipv6}
use Rattle.cidr.specs.model.Errors.{AddressError, LengthError}
use Rattle.cidr.specs.declared.errors.NetworkParseError.{NetworkParseError}
use Rattle.cidr.specs.declared.errors.NetworkParseError.TheVariants as parse_error
use Rattle.cidr.specs.declared.errors.InetTupleError.{InetTupleError}
use Rattle.cidr.specs.declared.errors.InetTupleError.TheVariants as pair_error
use Rattle.cidr.specs.declared.errors.CompactError.{CompactError}
use Rattle.cidr.specs.declared.errors.CompactError.TheVariants as compact_error
use Rattle.cidr.specs.declared.errors.PrefixBytesError.{PrefixBytesError}
use Rattle.cidr.specs.declared.errors.PrefixBytesError.TheVariants as prefix_error

-- the error of parsing an address, by the type that was to be parsed; this one of an `Ipv4Addr`
abbrev pub ipv4_error : AddressError
ipv4_error = Some Ipv4

-- of an `Ipv6Addr`
abbrev pub ipv6_error : AddressError
ipv6_error = Some Ipv6

-- of an `IpAddr`
abbrev pub ip_error : AddressError
ip_error = None

-- the message of each (std's `AddrParseError`)
abbrev pub address_message : AddressError → List ℕ
address_message (Some Ipv4) = codes "invalid IPv4 address syntax"
address_message (Some Ipv6) = codes "invalid IPv6 address syntax"
address_message None = codes "invalid IP address syntax"

-- the message for a prefix length that is no number below 256: this project's own
abbrev pub length_message : List ℕ
length_message = codes "invalid length text"

-- what stands after the length
abbrev pub limit_message : Family → List ℕ
limit_message Ipv4 = codes " is too long for Ipv4 (maximum: 32)"
limit_message Ipv6 = codes " is too long for Ipv6 (maximum: 128)"

-- the message for a prefix length above the width (the crate `cidr`)
abbrev pub too_long_message : LengthError → List ℕ
too_long_message (len, family) = codes "Network length " ++ (decimal len ++ limit_message family)

-- the messages of parsing and making a network (the crate `cidr`)
abbrev pub parse_message : NetworkParseError → List ℕ
parse_message parse_error.InvalidHostPart = codes "host part of address was not zero"
parse_message (parse_error.AddrParseError e) = codes "couldn't parse address in network: " ++ address_message e
parse_message (parse_error.NetworkLengthParseError e) = codes "couldn't parse length in network: " ++ length_message
parse_message (parse_error.NetworkLengthTooLongError e) = codes "invalid length for network: " ++ too_long_message e

-- the messages of making a pair (the crate `cidr`)
abbrev pub pair_message : InetTupleError → List ℕ
pair_message pair_error.NotInSharedNetwork = codes "addresses not in shared network"
pair_message (pair_error.NetworkLengthTooLongError e) = codes "invalid length for network: " ++ too_long_message e

-- the name of the address type of the other family
abbrev pub address_type : Family → List ℕ
address_type Ipv4 = codes "Ipv4Addr"
address_type Ipv6 = codes "Ipv6Addr"

-- the messages of reading compact bytes (the crate `cidr` and `serde`; `Truncated` is this project's own)
abbrev pub compact_message : CompactError → List ℕ
compact_message compact_error.Truncated = codes "compact bytes end too early"
compact_message compact_error.InvalidTag = codes "invalid tag"
compact_message compact_error.InvalidAny = codes "invalid value: `any`"
compact_message (compact_error.InvalidFamily family) = codes "invalid type: `" ++ (address_type family ++ codes "`")
compact_message compact_error.InvalidHostPart = codes "host part of address was not zero"

-- the messages of reading prefix bytes: this project's own
abbrev pub prefix_message : PrefixBytesError → List ℕ
prefix_message prefix_error.LengthTooLong = codes "prefix length is too long"
prefix_message prefix_error.Truncated = codes "prefix bytes end too early"
