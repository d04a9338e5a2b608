-- Addresses of both families as lists of bits, the family bit in front, which is set for IPv6, and their networks.
use Rattle.std.specs.Prelude.{◌≡◌, ◌↔◌, ◌≤◌, Bool, true, false, List, [], ◌∷◌, length}
use Rattle.std.specs.List.{Contains}
use Rattle.cidr_table.specs.model.Cover.{Covers}

-- 32 bits in IPv4 (RFC 791, 3.2), and 128 in IPv6 (RFC 4291, 2)
abbrev pub IsIpAddressBits : List Bool → Type 0
IsIpAddressBits [] = ⊥
IsIpAddressBits (false ∷ a) = length a ≡ 32
IsIpAddressBits (true ∷ a) = length a ≡ 128

-- a network of one family, or the one of all addresses, which has no bits
abbrev pub IsIpNetworkBits : List Bool → Type 0
IsIpNetworkBits [] = Unit {0}
IsIpNetworkBits (false ∷ p) = length p ≤ 32
IsIpNetworkBits (true ∷ p) = length p ≤ 128

-- each of them is such a network
abbrev pub AreIpNetworks : List (List Bool) → Type 0
AreIpNetworks networks = (p : List Bool) → Contains networks p → IsIpNetworkBits p

-- the same addresses of both families are held
abbrev pub HoldSameIp : List (List Bool) → List (List Bool) → Type 0
HoldSameIp these those = (a : List Bool) → IsIpAddressBits a → Covers these a ↔ Covers those a
