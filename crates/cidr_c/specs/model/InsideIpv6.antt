-- IPv4 inside IPv6, of values. Which bits stand in front is said in `Rattle.cidr_ext.specs.model.InsideIpv6`.
use Rattle.std.specs.Prelude.{◌≡◌, Bool, List, ◌++◌}
use Rattle.cidr.specs.either.IpAddress.{address_family, plain_bits}
use Rattle.cidr.specs.either.IpNetwork.{network_family, network_prefix}
use Rattle.cidr.specs.model.Network.{BeginsWith}
use Rattle.cidr.specs.declared.addr.ip.IpAddr.{IpAddr}
use Rattle.cidr.specs.declared.cidr.combined.IpCidr.{IpCidr}
use Rattle.cidr.specs.declared.family.Family.TheVariants.{Ipv4, Ipv6}
use Rattle.cidr_ext.specs.model.InsideIpv6.{IsIpv4Behind, mapped_front, nat64_front, six_to_four_front}

-- a network of IPv4 and that of its IPv4-mapped addresses (RFC 4291, 2.5.5.2)
pub record AreMapped (inner outer : IpCidr) : Type 0 where
  pub ipv4 : network_family inner ≡ Ipv4
  pub ipv6 : network_family outer ≡ Ipv6
  pub bits : network_prefix outer ≡ mapped_front ++ network_prefix inner

-- a network is inside ::ffff:0:0/96
abbrev pub IsOfMapped : IpCidr → Type 0
IsOfMapped network = (network_family network ≡ Ipv6) × BeginsWith (network_prefix network) mapped_front

-- an IPv6 address begins with these bits
abbrev pub BeginsIpv6 : List Bool → IpAddr → Type 0
BeginsIpv6 front address = (address_family address ≡ Ipv6) × BeginsWith (plain_bits address) front

-- the bits of an IPv4 address stand in those of an IPv6 address in this way
pub record IsInIpv6 (Stand : List Bool → List Bool → Type 0) (address inner : IpAddr) : Type 0 where
  pub ipv6 : address_family address ≡ Ipv6
  pub ipv4 : address_family inner ≡ Ipv4
  pub bits : Stand (plain_bits address) (plain_bits inner)

-- the address of the site of a 6to4 address (RFC 3056, 2)
abbrev pub IsSiteOf : IpAddr → IpAddr → Type 0
IsSiteOf = IsInIpv6 (IsIpv4Behind six_to_four_front)

-- the address in one of translation (RFC 6052, 2.1)
abbrev pub IsTranslated : IpAddr → IpAddr → Type 0
IsTranslated = IsInIpv6 (λ a inner. a ≡ nat64_front ++ inner)
