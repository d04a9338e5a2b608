-- Values as C has them: a number in two halves, and a tag, which tells the family and the prefix length as that of the
-- compact bytes does.
use Rattle.std.specs.Prelude.{◌≡◌, ℕ, Bool, List, ◌+◌, ◌-◌, ◌*◌, ◌^◌, ◌<◌, ◌≤◌, ◌⊎◌, ◌==◌, take, drop, nat_lt, if◌then◌else◌}
use Rattle.std.specs.Ordering.{nat_cmp, ordering_then}
use Rattle.std.specs.declared.cmp.Ordering.{Ordering}
use Rattle.cidr.specs.model.Bits.{bits, bit_cmp}
use Rattle.cidr.specs.model.Network.{width_of, zeros}
use Rattle.cidr.specs.model.Host.{host_of}
use Rattle.cidr.specs.either.IpAddress.{ip_address_bits}
use Rattle.cidr.specs.either.IpHost.{host_address, host_network, host_parts}
use Rattle.cidr.specs.either.IpNetwork.{network_family, network_prefix}
use Rattle.cidr.specs.declared.addr.ip.IpAddr.{IpAddr}
use Rattle.cidr.specs.declared.addr.ip.IpAddr.TheVariants as address
use Rattle.cidr.specs.declared.cidr.any.AnyIpCidr.{AnyIpCidr}
use Rattle.cidr.specs.declared.cidr.any.AnyIpCidr.TheVariants as network
use Rattle.cidr.specs.declared.cidr.combined.IpCidr.{IpCidr}
use Rattle.cidr.specs.declared.family.Family.{Family}
use Rattle.cidr.specs.declared.inet.combined.IpInet.{IpInet}
use Rattle.cidr.specs.declared.inet.combined.IpInet.TheVariants as host
use Rattle.cidr_c.specs.declared.values.CValue.{CValue}

-- the number that the halves are
abbrev pub number_in : CValue → ℕ
number_in v = v.high * 2 ^ 64 + v.low

-- the number is below 2^32, as that of an IPv4 address is
abbrev pub IsLow : CValue → Type 0
IsLow v = (v.high ≡ 0) × (v.low < 2 ^ 32)

-- the tag is of an IPv4 prefix length, 0 to 32, and the number that of an IPv4 address
abbrev pub IsIpv4 : CValue → Type 0
IsIpv4 v = (v.tag ≤ 32) × IsLow v

-- the tag is of an IPv6 prefix length: 64 for 0, to 192 for 128
abbrev pub IsIpv6 : CValue → Type 0
IsIpv6 v = (64 ≤ v.tag) × (v.tag ≤ 192)

-- a host: an address and a prefix length
abbrev pub IsHostValue : CValue → Type 0
IsHostValue v = IsIpv4 v ⊎ IsIpv6 v

-- the host that such a value is
abbrev pub host_in : CValue → IpInet
host_in v =
    if nat_lt v.tag 64 then host.V4 (host_of (bits 32 v.low) v.tag)
    else host.V6 (host_of (bits 128 (number_in v)) (v.tag - 64))

-- an address: a host of full prefix length, 32 or 128
abbrev pub IsAddressValue : CValue → Type 0
IsAddressValue v = ((v.tag ≡ 32) × IsLow v) ⊎ (v.tag ≡ 192)

-- the address that such a value is, or that of a host
abbrev pub address_in : CValue → IpAddr
address_in v = if nat_lt v.tag 64 then address.V4 (bits 32 v.low) else address.V6 (bits 128 (number_in v))

-- a network: `Any`, whose tag is 255 and whose halves are zero, or a host with no bit after the prefix set
abbrev pub IsNetworkValue : CValue → Type 0
IsNetworkValue v =
    ((v.tag ≡ 255) × (v.high ≡ 0) × (v.low ≡ 0))
    ⊎ ((IsIpv4 v × (drop v.tag (bits 32 v.low) ≡ zeros (32 - v.tag)))
    ⊎ (IsIpv6 v × (drop (v.tag - 64) (bits 128 (number_in v)) ≡ zeros (128 - (v.tag - 64)))))

-- the network that such a value is, or that a host is in
abbrev pub network_in : CValue → AnyIpCidr
network_in v =
    if v.tag == 255 then network.Any
    else (if nat_lt v.tag 64 then network.V4 (take v.tag (bits 32 v.low))
    else network.V6 (take (v.tag - 64) (bits 128 (number_in v))))

-- the order of hosts: IPv4 before IPv6, then by address, and then by prefix length
abbrev pub host_order : IpInet → IpInet → Ordering
host_order a b =
    ordering_then (bit_cmp (ip_address_bits (host_address a)) (ip_address_bits (host_address b))) (nat_cmp (host_parts a).len (host_parts b).len)

-- ---- the network of a host
-- a network but `Any`
abbrev pub IsIpNetworkValue : CValue → Type 0
IsIpNetworkValue v = IsHostValue v × IsNetworkValue v

-- the network that a host is in; of such a network itself
abbrev pub ip_network_in : CValue → IpCidr
ip_network_in v = host_network (host_in v)

-- its family, the bits that its addresses begin with, and how many an address has
abbrev pub family_in : CValue → Family
family_in v = network_family (ip_network_in v)

abbrev pub prefix_in : CValue → List Bool
prefix_in v = network_prefix (ip_network_in v)

abbrev pub width_in : CValue → ℕ
width_in v = width_of (family_in v)
