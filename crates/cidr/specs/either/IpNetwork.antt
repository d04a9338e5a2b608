-- Networks of either family. As bits they have the family bit in front, as addresses have it, and `Any` has no bits.
use Rattle.std.specs.Prelude.{◌≡◌, ℕ, ◌-◌, Bool, true, false, List, [], ◌∷◌, length, Option, Some, None, option_map, MatchOption, Result, ⊤}
use Rattle.std.specs.Option.{option_map_or}
use Rattle.cidr.specs.model.Network.{width_of, network_from, FitsWidth}
use Rattle.cidr.specs.model.Views.{seen}
use Rattle.cidr.specs.declared.addr.ip.IpAddr.{IpAddr}
use Rattle.cidr.specs.declared.addr.ip.IpAddr.TheVariants as address
use Rattle.cidr.specs.declared.cidr.combined.IpCidr.{IpCidr}
use Rattle.cidr.specs.declared.cidr.combined.IpCidr.TheVariants.{V4, V6}
use Rattle.cidr.specs.declared.cidr.any.AnyIpCidr.{AnyIpCidr}
use Rattle.cidr.specs.declared.cidr.any.AnyIpCidr.TheVariants as any_network
use Rattle.cidr.specs.declared.errors.NetworkParseError.{NetworkParseError}
use Rattle.cidr.specs.declared.family.Family.{Family}
use Rattle.cidr.specs.declared.family.Family.TheVariants.{Ipv4, Ipv6}

-- the family of a network
abbrev pub network_family : IpCidr → Family
network_family (V4 p) = Ipv4
network_family (V6 p) = Ipv6

-- the bits that its addresses begin with, without the family bit
abbrev pub network_prefix : IpCidr → List Bool
network_prefix (V4 p) = p
network_prefix (V6 p) = p

-- a list of at most as many bits as an address of its family has: what every `IpCidr` is
abbrev pub IsIpNetwork : IpCidr → Type 0
IsIpNetwork network = FitsWidth (width_of (network_family network)) (network_prefix network)

-- the bits with the family bit in front
abbrev pub network_bits : IpCidr → List Bool
network_bits (V4 p) = false ∷ p
network_bits (V6 p) = true ∷ p

-- what a function of the width and the bits gives, as an address of the family of the network
abbrev pub address_by : (ℕ → List Bool → List Bool) → IpCidr → IpAddr
address_by f (V4 p) = address.V4 (f 32 p)
address_by f (V6 p) = address.V6 (f 128 p)

-- the network of an address alone
abbrev pub lone_network : IpAddr → IpCidr
lone_network (address.V4 a) = V4 a
lone_network (address.V6 a) = V6 a

-- the network of the first n bits of an address, with the errors of its family
abbrev pub ip_network_from : IpAddr → ℕ → Result IpCidr NetworkParseError
ip_network_from (address.V4 a) n = seen V4 (network_from Ipv4 a n)
ip_network_from (address.V6 a) n = seen V6 (network_from Ipv6 a n)

-- full prefix length: the network has a single address
abbrev pub IsLone : IpCidr → Type 0
IsLone network = length (network_prefix network) ≡ width_of (network_family network)

-- the bits of an address of either family, with the family bit in front
abbrev pub IsAddressBits : List Bool → Type 0
IsAddressBits [] = ⊥
IsAddressBits (false ∷ a) = length a ≡ 32
IsAddressBits (true ∷ a) = length a ≡ 128

-- ---- every address, or a network
-- the network, or none where it is `Any`
abbrev pub specific : AnyIpCidr → Option IpCidr
specific any_network.Any = None
specific (any_network.V4 p) = Some (V4 p)
specific (any_network.V6 p) = Some (V6 p)

-- `Any`, or a network of the width of its family: what every `AnyIpCidr` is
abbrev pub IsAnyNetwork : AnyIpCidr → Type 0
IsAnyNetwork network = MatchOption (specific network) ⊤ IsIpNetwork

-- a network as one that may be `Any`
abbrev pub any_of : IpCidr → AnyIpCidr
any_of (V4 p) = any_network.V4 p
any_of (V6 p) = any_network.V6 p

-- the same, and `Any` for none
abbrev pub any_or : Option IpCidr → AnyIpCidr
any_or None = any_network.Any
any_or (Some network) = any_of network

-- the prefix length, or none where it is `Any`
abbrev pub any_length : AnyIpCidr → Option ℕ
any_length network = option_map (λ n. length (network_prefix n)) (specific network)

-- a network of a single address, which `Any` is not
abbrev pub IsLoneNetwork : AnyIpCidr → Type 0
IsLoneNetwork network = MatchOption (specific network) ⊥ IsLone

-- the bits with the family bit in front; `Any`, which contains every address of both families, has none
abbrev pub any_bits : AnyIpCidr → List Bool
any_bits network = option_map_or network_bits (specific network) []

-- how many bits can be appended, whichever they are: to `Any` the family bit and the 32 of IPv4
abbrev pub any_room : AnyIpCidr → ℕ
any_room any_network.Any = 33
any_room (any_network.V4 p) = 32 - length p
any_room (any_network.V6 p) = 128 - length p
