-- The addresses of some networks by their index, and how many they are. w is the width of addresses.
use Rattle.std.specs.Prelude.{◌≡◌, ◌↔◌, ℕ, Bool, List, length, Option}
use Rattle.std.specs.List.{Contains, slice_get}
use Rattle.std.specs.List.Sorted.{IsStrictlySortedBy}
use Rattle.cidr.specs.model.Bits.{bit_cmp}
use Rattle.cidr_table.specs.model.Cover.{Covers}

-- all addresses of some networks: ascending, so that none stands there twice, and exactly those of w bits that begin with
-- the bits of one of the networks
pub record AreAddresses (w : ℕ) (networks all : List (List Bool)) : Type 0 where
  pub ascending : IsStrictlySortedBy bit_cmp all
  pub exact : (a : List Bool) → Contains all a ↔ ((length a ≡ w) × Covers networks a)

-- there are so many
abbrev pub HaveCount : ℕ → List (List Bool) → ℕ → Type 0
HaveCount w networks count = (all : List (List Bool)) × AreAddresses w networks all × (length all ≡ count)

-- the one at this index, from 0 on, or none where there are no more than that
abbrev pub IsAtIndex : ℕ → List (List Bool) → ℕ → Option (List Bool) → Type 0
IsAtIndex w networks index address = (all : List (List Bool)) × AreAddresses w networks all × (slice_get all index ≡ address)
