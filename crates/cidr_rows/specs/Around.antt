-- The keys that begin the asked bits, by their indexes.
use Rattle.std.specs.Prelude.{◌≡◌, ◌↔◌, ◌+◌, ◌<◌, ◌≤◌, ◌++◌, ℕ, All, Bool, Contains, List, length, map, take, drop, slice_get, Some}
use Rattle.std.specs.List.Sorted.{IsStrictlyIncreasing, IsStrictlySortedBy}
use Rattle.cidr.specs.model.Bits.{bit_cmp}
use Rattle.cidr.specs.model.Network.{BeginsWith}

-- a list in a room: as much of it as there is room for, and what is behind it stays
abbrev pub put_in : {X : Type 0} → List X → List X → List X
put_in list room = take (length room) list ++ drop (length list) room

module _ {C : Type 0} (bits : C → List Bool) (asked : List Bool) (keys : List C) where
  -- a key that begins the asked bits stands at this index
  abbrev pub IsCoveringAt : ℕ → Type 0
  IsCoveringAt i = (key : C) × (slice_get keys i ≡ Some key) × BeginsWith asked (bits key)

  -- the indexes of all of them, ascending
  pub record AreCovering (indexes : List ℕ) : Type 0 where
    pub ascending : IsStrictlyIncreasing indexes
    pub exact : (i : ℕ) → Contains indexes i ↔ IsCoveringAt i

  -- these in a room, and their number, where the keys ascend; elsewhere some indexes of keys
  pub record AreCoveringPut (old new : List ℕ) (count : ℕ) : Type 0 where
    pub indexes : List ℕ
    pub within : All (λ i. i < length keys) indexes
    pub most : length indexes ≤ length asked + 1
    pub covering : IsStrictlySortedBy bit_cmp (map bits keys) → AreCovering indexes
    pub put : new ≡ put_in indexes old
    pub counted : count ≡ length indexes
