-- Compact bytes (the crate `cidr`): a tag, which tells the family and the length, and the octets of the address.
use Rattle.std.specs.Prelude.{◌≡◌, ◌↔◌, ℕ, ◌+◌, Bool, List, [], ◌∷◌, ◌++◌, length, take, Result, Ok, IfErr}
use Rattle.std.specs.Option.{option_map_or}
use Rattle.cidr.specs.model.Address.{parts_of}
use Rattle.cidr.specs.model.Host.{Host, first_host}
use Rattle.cidr.specs.model.Network.{width_of}
use Rattle.cidr.specs.either.IpNetwork.{specific}
use Rattle.cidr.specs.declared.cidr.any.AnyIpCidr.{AnyIpCidr}
use Rattle.cidr.specs.declared.cidr.combined.IpCidr.{IpCidr}
use Rattle.cidr.specs.declared.cidr.combined.IpCidr.TheVariants.{V4, V6}
use Rattle.cidr.specs.declared.errors.CompactError.{CompactError}
use Rattle.cidr.specs.declared.family.Family.{Family}
use Rattle.cidr.specs.declared.family.Family.TheVariants.{Ipv4, Ipv6}
use Rattle.cidr.specs.declared.inet.combined.IpInet.{IpInet}
use Rattle.cidr.specs.declared.inet.combined.IpInet.TheVariants as host

-- the tag of a prefix length: 0x00 to 0x20 in IPv4, and 0x40 to 0xc0 in IPv6
abbrev pub tag_of : Family → ℕ → ℕ
tag_of Ipv4 n = n
tag_of Ipv6 n = 0x40 + n

-- the tag of `Any`
abbrev pub any_tag : ℕ
any_tag = 0xff

-- how many octets an address has: 4 or 16
abbrev pub octet_count : Family → ℕ
octet_count Ipv4 = 4
octet_count Ipv6 = 16

-- the compact bytes of a host: the tag of its prefix length, and the octets of its address
abbrev pub host_bytes : Family → Host → List ℕ
host_bytes family host = tag_of family host.len ∷ parts_of 8 (octet_count family) host.address

-- those of a network: of the host at its first address
abbrev pub network_bytes : Family → List Bool → List ℕ
network_bytes family network = host_bytes family (first_host (width_of family) network)

-- those of a host of either family
abbrev pub ip_host_bytes : IpInet → List ℕ
ip_host_bytes (host.V4 h) = host_bytes Ipv4 h
ip_host_bytes (host.V6 h) = host_bytes Ipv6 h

-- those of a network of either family
abbrev pub ip_network_bytes : IpCidr → List ℕ
ip_network_bytes (V4 p) = network_bytes Ipv4 p
ip_network_bytes (V6 p) = network_bytes Ipv6 p

-- the same; those of `Any` are its tag alone
abbrev pub any_network_bytes : AnyIpCidr → List ℕ
any_network_bytes network = option_map_or ip_network_bytes (specific network) (any_tag ∷ [])

-- ---- writing
-- a value of the type, whose bytes begin those of no other value and are begun by those of no other
pub record StandsAlone {V : Type 0} (IsValue : V → Type 0) (bytes_of : V → List ℕ) (value : V) : Type 0 where
  pub is_value : IsValue value
  pub begins_none : (other : V) (rest : List ℕ) → IsValue other → bytes_of other ≡ bytes_of value ++ rest → other ≡ value
  pub begun_by_none : (other : V) (rest : List ℕ) → IsValue other → bytes_of value ≡ bytes_of other ++ rest → other ≡ value

-- ---- reading
-- the first k bytes of the input are these
abbrev pub AreFirst : ℕ → List ℕ → List ℕ → Type 0
AreFirst k input bytes = (length bytes ≡ k) × (take k input ≡ bytes)

-- reading gives a value and k exactly where the first k bytes are those of the value, and else an error of the input
pub record ReadsCompact {V : Type 0} (IsValue : V → Type 0) (bytes_of : V → List ℕ) (IsRefused : List ℕ → CompactError → Type 0)
    (input : List ℕ) (r : Result (V × ℕ) CompactError) : Type 0 where
  pub exactly : (value : V) (k : ℕ) → (r ≡ Ok (value, k)) ↔ (IsValue value × AreFirst k input (bytes_of value))
  pub refused : IfErr r (IsRefused input)
