-- Networks and addresses that calls make of the network of a host, of addresses, and of strings.
use Rattle.std.specs.Prelude.{◌≡◌, ◌≢◌, ◌⊎◌, ◌↔◌, ℕ, ◌+◌, ◌<◌, ◌≤◌, Bool, false, true, List, [], ◌∷◌, ◌++◌, drop, length, slice_get, Some, IsUtf8}
use Rattle.cidr.specs.model.Host.{Host}
use Rattle.cidr.specs.model.Network.{width_of}
use Rattle.cidr.specs.either.IpAddress.{address_family, plain_bits}
use Rattle.cidr.specs.either.IpNetwork.{network_family, network_prefix}
use Rattle.cidr.specs.declared.addr.ip.IpAddr.{IpAddr}
use Rattle.cidr.specs.declared.cidr.combined.IpCidr.{IpCidr}
use Rattle.cidr.specs.declared.family.Family.{Family}
use Rattle.cidr_lookup.specs.declared.halves.Ipv6Halves.{Ipv6Halves}
use Rattle.cidr_ext.specs.model.Inside.{usable_of}
use Rattle.cidr_ext.specs.texts.Reverse.{IsReverseName}
use Rattle.cidr_ext.specs.model.Subnets.{IsSubnetAt, NoSubnetAt}
use Rattle.cidr_c.specs.calls.Calls.{IsAnyValue, IsSought}
use Rattle.cidr_c.specs.model.Codes.{no_such, no_value, not_utf8}
use Rattle.cidr_c.specs.model.Tables.{ipv6_number}
use Rattle.cidr_c.specs.model.Values.{IsAddressValue, IsHostValue, IsIpNetworkValue, address_in, family_in, ip_network_in, prefix_in, width_in}
use Rattle.cidr_c.specs.declared.values.CValue.{CValue}

-- a network of the family of a host, of whose bits Holds is true, or none
abbrev pub IsNetworkSought : CValue → Type 0 → (List Bool → Type 0) → CValue → CValue → ℕ → Type 0
IsNetworkSought host IsNone Holds =
    IsSought (IsHostValue host) IsNone IsIpNetworkValue ip_network_in (λ n. (network_family n ≡ family_in host) × Holds (network_prefix n))

-- two networks
abbrev pub AreIpNetworkValues : CValue × CValue → Type 0
AreIpNetworkValues values = IsIpNetworkValue values.0 × IsIpNetworkValue values.1

abbrev pub ip_networks_in : CValue × CValue → IpCidr × IpCidr
ip_networks_in values = (ip_network_in values.0, ip_network_in values.1)

-- both halves of the network of a host, the lower one first, or none where it has all bits of an address
abbrev pub AreHalvesSought : CValue → CValue × CValue → CValue × CValue → ℕ → Type 0
AreHalvesSought host =
    IsSought (IsHostValue host) (length (prefix_in host) ≡ width_in host) AreIpNetworkValues ip_networks_in
    (λ halves. ((network_family halves.0 ≡ family_in host) × (network_prefix halves.0 ≡ prefix_in host ++ false ∷ []))
    × ((network_family halves.1 ≡ family_in host) × (network_prefix halves.1 ≡ prefix_in host ++ true ∷ [])))

-- an address of the family of a host, or none
abbrev pub IsAddressSought : CValue → Type 0 → (List Bool → Type 0) → CValue → CValue → ℕ → Type 0
IsAddressSought host IsNone Holds =
    IsSought (IsHostValue host) IsNone IsAddressValue address_in (λ a. (address_family a ≡ family_in host) × Holds (plain_bits a))

-- a number in two halves, or none
abbrev pub IsNumberSought : Type 0 → Type 0 → (ℕ → Type 0) → Ipv6Halves → Ipv6Halves → ℕ → Type 0
IsNumberSought IsTaken IsNone Holds = IsSought IsTaken IsNone IsAnyValue ipv6_number Holds

-- a number in a room of its own, or none
abbrev pub IsLengthSought : Type 0 → Type 0 → (ℕ → Type 0) → ℕ → ℕ → ℕ → Type 0
IsLengthSought IsTaken IsNone Holds = IsSought IsTaken IsNone IsAnyValue (λ n. n) Holds

-- the family, the width and the bits of an address
abbrev pub address_family_in : CValue → Family
address_family_in v = address_family (address_in v)

abbrev pub address_width_in : CValue → ℕ
address_width_in v = width_of (address_family_in v)

abbrev pub address_bits_in : CValue → List Bool
address_bits_in v = plain_bits (address_in v)

-- an address stands first among hosts, or last
abbrev pub IsFirstHost : List (Family × Host) → IpAddr → Type 0
IsFirstHost hosts a = (n : ℕ) × (rest : List (Family × Host)) × (hosts ≡ (address_family a, record { address = plain_bits a; len = n }) ∷ rest)

abbrev pub IsLastHost : List (Family × Host) → IpAddr → Type 0
IsLastHost hosts a = (n : ℕ) × (rest : List (Family × Host)) × (hosts ≡ rest ++ (address_family a, record { address = plain_bits a; len = n }) ∷ [])

-- the addresses that hosts may have of the network of a host
abbrev pub usable_in : CValue → List (Family × Host)
usable_in host = usable_of (family_in host) (prefix_in host)

-- one of them, or none where there are none
abbrev pub IsUsableSought : (List (Family × Host) → IpAddr → Type 0) → CValue → CValue → CValue → ℕ → Type 0
IsUsableSought Stands host = IsSought (IsHostValue host) (usable_in host ≡ []) IsAddressValue address_in (Stands (usable_in host))

-- the networks of a prefix length from an index on: the first `count` of the room are as many as there are and as it has places
-- for, and what is behind them stays; or the number of the error, of the host and then where no network inside has that length
pub record AreSubnetsPut (host : CValue) (len index : ℕ) (old new : List CValue) (count count_new code : ℕ) : Type 0 where
  pub taken : code ≡ 0 → IsHostValue host
  pub networks : code ≡ 0 → (i : ℕ) (v : CValue) → i < count_new → slice_get new i ≡ Some v
      → IsIpNetworkValue v × (family_in v ≡ family_in host) × IsSubnetAt (prefix_in host) len (index + i) (prefix_in v)
  pub fits : code ≡ 0 → count_new ≤ length old
  pub all : code ≡ 0 → (count_new ≡ length old) ⊎ NoSubnetAt (width_in host) (prefix_in host) len (index + count_new)
  pub behind : code ≡ 0 → drop count_new new ≡ drop count_new old
  pub none : code ≡ no_such → IsHostValue host × NoSubnetAt (width_in host) (prefix_in host) len 0
  pub refused : code ≡ no_value → ¬ (IsHostValue host)
  pub codes : (code ≡ 0) ⊎ ((code ≡ no_such) ⊎ (code ≡ no_value))
  pub stays : code ≢ 0 → (new ≡ old) × (count_new ≡ count)

-- what private functions promise each other: the first n of the room are subnets of a network
pub record AreFirstSubnets (network : IpCidr) (len index : ℕ) (old new : List CValue) (n : ℕ) : Type 0 where
  pub networks : (i : ℕ) (v : CValue) → i < n → slice_get new i ≡ Some v
      → IsIpNetworkValue v × (family_in v ≡ network_family network) × IsSubnetAt (network_prefix network) len (index + i) (prefix_in v)
  pub fits : n ≤ length old
  pub all : (n ≡ length old) ⊎ NoSubnetAt (width_of (network_family network)) (network_prefix network) len (index + n)
  pub behind : drop n new ≡ drop n old

-- reading a name in reverse DNS: 0 and the network that has it; or the number of the error, where it is not UTF-8, or no network
-- has the name, and then the value that was there stays
pub record IsNameRead (text : List ℕ) (old new : CValue) (code : ℕ) : Type 0 where
  pub named : code ≡ 0 → IsUtf8 text × IsIpNetworkValue new × IsReverseName (family_in new) text (prefix_in new)
  pub utf8 : (code ≡ not_utf8) ↔ ¬ (IsUtf8 text)
  pub none : code ≡ no_such → (network : IpCidr) → ¬ (IsReverseName (network_family network) text (network_prefix network))
  pub codes : (code ≡ 0) ⊎ ((code ≡ not_utf8) ⊎ (code ≡ no_such))
  pub stays : code ≢ 0 → new ≡ old
