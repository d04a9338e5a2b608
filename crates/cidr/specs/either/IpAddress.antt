-- Addresses of either family. As bits they have the family bit in front: 0 for IPv4 and 1 for IPv6.
use Rattle.std.specs.Prelude.{◌≡◌, ◌↔◌, ℕ, Bool, true, false, List, [], ◌∷◌, IsTrue}
use Rattle.std.specs.declared.cmp.Ordering.TheVariants.{Equal}
use Rattle.std.specs.declared.cmp.Ordering.{Ordering}
use Rattle.cidr.specs.model.Bits.{bit_cmp}
use Rattle.cidr.specs.model.Address.{octet_bits, group_bits}
use Rattle.cidr.specs.texts.AddressText.{IsAddressText}
use Rattle.cidr.specs.model.Network.{width_of, zeros, HasWidth}
use Rattle.cidr.specs.declared.family.Family.{Family}
use Rattle.cidr.specs.declared.family.Family.TheVariants.{Ipv4, Ipv6}
use Rattle.cidr.specs.declared.addr.ip.IpAddr.{IpAddr}
use Rattle.cidr.specs.declared.addr.ip.IpAddr.TheVariants.{V4, V6}

-- the bits with the family bit in front
abbrev pub ip_address_bits : IpAddr → List Bool
ip_address_bits (V4 a) = false ∷ a
ip_address_bits (V6 a) = true ∷ a

-- the family of an address
abbrev pub address_family : IpAddr → Family
address_family (V4 a) = Ipv4
address_family (V6 a) = Ipv6

-- the 32 or 128 bits, without the family bit
abbrev pub plain_bits : IpAddr → List Bool
plain_bits (V4 a) = a
plain_bits (V6 a) = a

-- a list of as many bits as an address of its family has: what every `IpAddr` is
abbrev pub IsIpAddress : IpAddr → Type 0
IsIpAddress a = HasWidth (width_of (address_family a)) (plain_bits a)

-- an IPv4 address as a string for `V4`, an IPv6 address for `V6`; no string is both
abbrev pub IsIpText : List ℕ → IpAddr → Type 0
IsIpText text (V4 a) = IsAddressText Ipv4 text a
IsIpText text (V6 a) = IsAddressText Ipv6 text a

-- the unspecified address: 0.0.0.0 (RFC 1122, 3.2.1.3) or :: (RFC 4291, 2.5.2)
abbrev pub unspecified : Family → IpAddr
unspecified Ipv4 = V4 (zeros 32)
unspecified Ipv6 = V6 (zeros 128)

-- the loopback address: 127.0.0.1 (RFC 1122, 3.2.1.3) or ::1 (RFC 4291, 2.5.3)
abbrev pub loopback : Family → IpAddr
loopback Ipv4 = V4 (octet_bits (127 ∷ 0 ∷ 0 ∷ 1 ∷ []))
loopback Ipv6 = V6 (group_bits (0 ∷ 0 ∷ 0 ∷ 0 ∷ 0 ∷ 0 ∷ 0 ∷ 1 ∷ []))

-- the order of two values is the lexicographic order of their bits
abbrev pub IsOrderOfBits : {A : Type 0} → (A → List Bool) → (A → A → Ordering) → Type 0
IsOrderOfBits {A} bits cmp = (a b : A) → cmp a b ≡ bit_cmp (bits a) (bits b)

-- a string represents one value at most
abbrev pub SpellsOne : {A : Type 0} → (List ℕ → A → Type 0) → Type 0
SpellsOne {A} Spells = (text : List ℕ) (a b : A) → Spells text a → Spells text b → a ≡ b

-- an equality that holds exactly for the same values
abbrev pub TellsEqual : {A : Type 0} → (A → A → Bool) → Type 0
TellsEqual {A} eq = (a b : A) → IsTrue (eq a b) ↔ (a ≡ b)

-- an order that is `Equal` exactly for the same values
abbrev pub TiesEqual : {A : Type 0} → (A → A → Ordering) → Type 0
TiesEqual {A} cmp = (a b : A) → (cmp a b ≡ Equal) ↔ (a ≡ b)

-- a clone is the same value
abbrev pub ClonesSame : {A : Type 0} → (A → A → Type 0) → Type 0
ClonesSame {A} is_clone = (a copy : A) → is_clone a copy → copy ≡ a

-- a clone never fails
abbrev pub ClonesAlways : {A : Type 0} → (A → Type 0) → Type 0
ClonesAlways {A} is_infallible = (a : A) → is_infallible a
