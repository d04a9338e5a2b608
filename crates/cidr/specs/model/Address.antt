-- An address as numbers of k bits each: octets at k = 8, IPv6 groups at k = 16.
-- An IPv4 address has 32 bits (RFC 791, 3.2), an IPv6 address 128 (RFC 4291, 2).
use Rattle.std.specs.Prelude.{ℕ, zero, suc, Bool, List, [], ◌∷◌, take, drop, flat_map}
use Rattle.cidr.specs.model.Bits.{bits, number}

-- the numbers of the first n parts of k bits each
unfoldable pub parts_of : ℕ → ℕ → List Bool → List ℕ
parts_of k zero a = []
parts_of k (suc n) a = number (take k a) ∷ parts_of k n (drop k a)

-- the bits of octets in order: 192, 0, 2, 1 give the 32 bits of 192.0.2.1
abbrev pub octet_bits : List ℕ → List Bool
octet_bits octets = flat_map (bits 8) octets

-- the four octets of an IPv4 address, the first one first
abbrev pub octets_of : List Bool → List ℕ
octets_of a = parts_of 8 4 a

-- the bits of groups of sixteen in order
abbrev pub group_bits : List ℕ → List Bool
group_bits groups = flat_map (bits 16) groups

-- the eight groups of sixteen bits of an IPv6 address, the first one first (RFC 4291, 2.2)
abbrev pub groups_of : List Bool → List ℕ
groups_of a = parts_of 16 8 a
