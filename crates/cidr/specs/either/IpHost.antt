-- Hosts of either family.
use Rattle.std.specs.Prelude.{◌≡◌, ℕ, Bool, List, Option, option_map, Result}
use Rattle.std.specs.Ordering.{nat_cmp, ordering_then}
use Rattle.std.specs.declared.cmp.Ordering.{Ordering}
use Rattle.cidr.specs.model.Bits.{bit_cmp}
use Rattle.cidr.specs.model.Host.{Host, IsHost, network_of, lone_host, host_from, stepped_up, stepped_down, WrapsUp, WrapsDown}
use Rattle.cidr.specs.either.IpAddress.{ip_address_bits}
use Rattle.cidr.specs.model.Network.{width_of}
use Rattle.cidr.specs.model.Views.{seen}
use Rattle.cidr.specs.declared.addr.ip.IpAddr.{IpAddr}
use Rattle.cidr.specs.declared.addr.ip.IpAddr.TheVariants as address
use Rattle.cidr.specs.declared.cidr.combined.IpCidr.{IpCidr}
use Rattle.cidr.specs.declared.cidr.combined.IpCidr.TheVariants as network
use Rattle.cidr.specs.model.Errors.{LengthError}
use Rattle.cidr.specs.declared.family.Family.{Family}
use Rattle.cidr.specs.declared.family.Family.TheVariants.{Ipv4, Ipv6}
use Rattle.cidr.specs.declared.inet.combined.IpInet.{IpInet}
use Rattle.cidr.specs.declared.inet.combined.IpInet.TheVariants.{V4, V6}

-- the family of a host
abbrev pub host_family : IpInet → Family
host_family (V4 h) = Ipv4
host_family (V6 h) = Ipv6

-- the address, without a family bit, and the prefix length
abbrev pub host_parts : IpInet → Host
host_parts (V4 h) = h
host_parts (V6 h) = h

-- the address of a host
abbrev pub host_address : IpInet → IpAddr
host_address (V4 h) = address.V4 h.address
host_address (V6 h) = address.V6 h.address

-- the network of a host
abbrev pub host_network : IpInet → IpCidr
host_network (V4 h) = network.V4 (network_of h)
host_network (V6 h) = network.V6 (network_of h)

-- what a function of the width and the host gives, as a host of the same family
abbrev pub host_by : (ℕ → Host → Host) → IpInet → IpInet
host_by f (V4 h) = V4 (f 32 h)
host_by f (V6 h) = V6 (f 128 h)

-- the same for a function that may give no host
abbrev pub neighbour_by : (ℕ → Host → Option Host) → IpInet → Option IpInet
neighbour_by f (V4 h) = option_map V4 (f 32 h)
neighbour_by f (V6 h) = option_map V6 (f 128 h)

-- what a function of the width and a network gives, as a host of the same family
abbrev pub host_at : (ℕ → List Bool → Host) → IpCidr → IpInet
host_at f (network.V4 p) = V4 (f 32 p)
host_at f (network.V6 p) = V6 (f 128 p)

-- the host of an address and the full prefix length
abbrev pub lone_ip_host : IpAddr → IpInet
lone_ip_host (address.V4 a) = V4 (lone_host 32 a)
lone_ip_host (address.V6 a) = V6 (lone_host 128 a)

-- the host of an address and a prefix length, or an error where the length is above the width of the family
abbrev pub ip_host_from : IpAddr → ℕ → Result IpInet LengthError
ip_host_from (address.V4 a) n = seen V4 (host_from Ipv4 a n)
ip_host_from (address.V6 a) n = seen V6 (host_from Ipv6 a n)

-- s addresses up within the network
abbrev pub ip_stepped_up : IpInet → ℕ → IpInet
ip_stepped_up host s = host_by (λ w h. stepped_up w h s) host

-- s addresses down within the network
abbrev pub ip_stepped_down : IpInet → ℕ → IpInet
ip_stepped_down host s = host_by (λ w h. stepped_down w h s) host

-- s addresses up leave the network and wrap
abbrev pub IpWrapsUp : IpInet → ℕ → Type 0
IpWrapsUp host s = WrapsUp (width_of (host_family host)) (host_parts host) s

-- s addresses down leave the network and wrap
abbrev pub IpWrapsDown : IpInet → ℕ → Type 0
IpWrapsDown host s = WrapsDown (host_parts host) s

-- a host of the width of its family: what every `IpInet` is
abbrev pub IsIpHost : IpInet → Type 0
IsIpHost host = IsHost (width_of (host_family host)) (host_parts host)

-- the order of hosts: by family, then by address, then by prefix length
abbrev pub IsOrderOfHosts : (IpInet → IpInet → Ordering) → Type 0
IsOrderOfHosts cmp =
    (a b : IpInet) → cmp a b ≡ ordering_then (bit_cmp (ip_address_bits (host_address a)) (ip_address_bits (host_address b))) (nat_cmp (host_parts a).len (host_parts b).len)
