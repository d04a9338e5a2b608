-- The addresses of a list of networks, as C has them: in ranges, how many they are, and by their index. What the longest ranges
-- are is said in `Rattle.cidr_sets.specs.model.Ranges`.
use Rattle.std.specs.Prelude.{◌≡◌, ◌↔◌, ℕ, ◌≤◌, Bool, true, false, List, ◌∷◌, length, Option}
use Rattle.std.specs.List.{Contains, slice_get}
use Rattle.std.specs.List.Sorted.{IsStrictlySortedBy}
use Rattle.cidr.specs.model.Bits.{bit_cmp}
use Rattle.cidr.specs.model.Network.{BeginsWith, width_of}
use Rattle.cidr.specs.either.IpAddress.{ip_address_bits}
use Rattle.cidr.specs.declared.family.Family.{Family}
use Rattle.cidr.specs.declared.family.Family.TheVariants.{Ipv4, Ipv6}
use Rattle.cidr_table.specs.model.Cover.{Covers}
use Rattle.cidr_c.specs.model.Values.{IsAddressValue, address_in}
use Rattle.cidr_c.specs.declared.ranges.CRange.{CRange}

-- a range, whose ends are addresses
abbrev pub IsRangeValue : CRange → Type 0
IsRangeValue r = IsAddressValue r.first × IsAddressValue r.last

-- the bits of both ends
abbrev pub range_in : CRange → List Bool × List Bool
range_in r = (ip_address_bits (address_in r.first), ip_address_bits (address_in r.last))

-- the bit in front of the bits of a family's addresses
abbrev pub family_bit : Family → Bool
family_bit Ipv4 = false
family_bit Ipv6 = true

-- all addresses of a family that some networks have: ascending, so that none stands there twice
pub record AreAddressesIn (family : Family) (networks all : List (List Bool)) : Type 0 where
  pub ascending : IsStrictlySortedBy bit_cmp all
  pub exact : (a : List Bool) → Contains all a ↔ ((length a ≡ width_of family) × Covers networks (family_bit family ∷ a))

-- they are so many
abbrev pub HaveCountIn : Family → List (List Bool) → ℕ → Type 0
HaveCountIn family networks count = (all : List (List Bool)) × AreAddressesIn family networks all × (length all ≡ count)

-- the one at this index, from 0 on, or none where there are no more than that
abbrev pub IsAtIndexIn : Family → List (List Bool) → ℕ → Option (List Bool) → Type 0
IsAtIndexIn family networks index address = (all : List (List Bool)) × AreAddressesIn family networks all × (slice_get all index ≡ address)

-- ---- what private functions promise each other
-- no address of the family is in the network
abbrev pub IsApartFrom : Family → List Bool → Type 0
IsApartFrom family p = (a : List Bool) → length a ≡ width_of family → ¬ (BeginsWith (family_bit family ∷ a) p)

-- a network of the family has those that are
pub record IsFamilyPart (family : Family) (p own : List Bool) : Type 0 where
  pub fits : length own ≤ width_of family
  pub exact : (a : List Bool) → length a ≡ width_of family → BeginsWith a own ↔ BeginsWith (family_bit family ∷ a) p

-- networks of the family have those that are in some networks
abbrev pub AreFamilyPart : Family → List (List Bool) → List (List Bool) → Type 0
AreFamilyPart family networks own = (a : List Bool) → length a ≡ width_of family → Covers own a ↔ Covers networks (family_bit family ∷ a)
