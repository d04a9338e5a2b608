-- The minimal aggregate of some networks, here their least cover: the shortest list of networks that has exactly their
-- addresses (aggregation, RFC 4632, 4). A network is the list of the bits that its addresses begin with. Lists of w
-- bits stand for the addresses, where no address is longer.
use Rattle.std.specs.Prelude.{◌≡◌, ◌↔◌, ℕ, ◌-◌, ◌≤◌, ◌⊎◌, Bool, List, [], length, take}
use Rattle.std.specs.List.{Contains}
use Rattle.std.specs.List.Sorted.{IsStrictlySortedBy}
use Rattle.cidr.specs.model.Bits.{bit_cmp}
use Rattle.cidr.specs.model.Network.{BeginsWith}

-- one of the networks begins the list
abbrev pub Covers : List (List Bool) → List Bool → Type 0
Covers networks a = (p : List Bool) × Contains networks p × BeginsWith a p

-- every list of w bits that begins with p is covered, if by several keys together
abbrev pub IsFull : ℕ → List (List Bool) → List Bool → Type 0
IsFull w keys p = (a : List Bool) → length a ≡ w → BeginsWith a p → Covers keys a

-- the network that p is a half of: p less its last bit
abbrev pub parent : List Bool → List Bool
parent p = take (length p - 1) p

-- a network that is full, and either of no bits or with a parent that isn't full
pub record IsMember (w : ℕ) (keys : List (List Bool)) (p : List Bool) : Type 0 where
  pub within : length p ≤ w
  pub full : IsFull w keys p
  pub widest : (p ≡ []) ⊎ ¬ (IsFull w keys (parent p))

-- the least cover of the keys: exactly these networks, ascending
pub record IsLeastCover (w : ℕ) (keys cover : List (List Bool)) : Type 0 where
  pub ascending : IsStrictlySortedBy bit_cmp cover
  pub members : (p : List Bool) → Contains cover p ↔ IsMember w keys p

-- none can be left out and no two put together: they are their own least cover
abbrev pub IsReduced : ℕ → List (List Bool) → Type 0
IsReduced w networks = IsLeastCover w networks networks

-- ---- what its laws say
-- the same long lists are covered
abbrev pub CoverSame : ℕ → List (List Bool) → List (List Bool) → Type 0
CoverSame w these those = (a : List Bool) → length a ≡ w → Covers these a ↔ Covers those a

-- networks of addresses of w bits
abbrev pub AreNetworks : ℕ → List (List Bool) → Type 0
AreNetworks w networks = (p : List Bool) → Contains networks p → length p ≤ w

-- the networks lie in those of the cover: each in exactly one, and in each at least one
pub record IsRefinement (cover networks : List (List Bool)) : Type 0 where
  pub held : (p : List Bool) → Contains networks p
      → (m : List Bool) × Contains cover m × BeginsWith p m
      × ((n : List Bool) → Contains cover n → BeginsWith p n → n ≡ m)
  pub used : (m : List Bool) → Contains cover m → (p : List Bool) × Contains networks p × BeginsWith p m
