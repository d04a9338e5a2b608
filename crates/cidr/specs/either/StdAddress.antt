-- The addresses of the standard library's `std::net` beside ours: an IPv4 address by its four octets, an IPv6 address by
-- its eight groups of sixteen bits, most significant first in both (RFC 791, 3.2; RFC 4291, 2.2).
use Rattle.std.specs.Prelude.{◌≡◌, Bool, List}
use Rattle.std.specs.Net.Addr.{ipv4_octets, ipv6_segments}
use Rattle.std.specs.declared.net.ipv4_addr.Ipv4Addr.{Ipv4Addr}
use Rattle.std.specs.declared.net.ipv6_addr.Ipv6Addr.{Ipv6Addr}
use Rattle.std.specs.declared.net.ip_addr.IpAddr.{IpAddr as StdIpAddr}
use Rattle.std.specs.declared.net.ip_addr.IpAddr.TheVariants as std
use Rattle.cidr.specs.model.Address.{octet_bits, octets_of, group_bits, groups_of}
use Rattle.cidr.specs.declared.addr.ip.IpAddr.{IpAddr}
use Rattle.cidr.specs.declared.addr.ip.IpAddr.TheVariants.{V4, V6}

-- the two are one address: each has the octets or groups, and the bits, of the other
abbrev pub IsStdIpv4 : List Bool → Ipv4Addr → Type 0
IsStdIpv4 ours a = (ipv4_octets a ≡ octets_of ours) × (ours ≡ octet_bits (ipv4_octets a))

abbrev pub IsStdIpv6 : List Bool → Ipv6Addr → Type 0
IsStdIpv6 ours a = (ipv6_segments a ≡ groups_of ours) × (ours ≡ group_bits (ipv6_segments a))

-- the same of an address of its family
abbrev pub IsStdIp : IpAddr → StdIpAddr → Type 0
IsStdIp (V4 ours) (std.V4 a) = IsStdIpv4 ours a
IsStdIp (V6 ours) (std.V6 a) = IsStdIpv6 ours a
IsStdIp (V4 ours) (std.V6 a) = ⊥
IsStdIp (V6 ours) (std.V4 a) = ⊥
