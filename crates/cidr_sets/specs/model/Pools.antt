-- Free networks of a set: those of n bits that one of its networks contains, so that all their addresses are in the set.
-- `IsNetwork` tells which lists of bits are networks.
use Rattle.std.specs.Prelude.{◌≡◌, ◌≢◌, ◌↔◌, ◌⊎◌, ℕ, ◌+◌, ◌-◌, ◌^◌, ◌<◌, ◌≤◌, Bool, true, false, List, [], ◌∷◌, length, Contains, Option, Some, None}
use Rattle.std.specs.declared.cmp.Ordering.TheVariants.{Greater}
use Rattle.cidr.specs.model.Bits.{bit_cmp}
use Rattle.cidr.specs.model.Network.{BeginsWith}
use Rattle.cidr_table.specs.model.Cover.{Covers}

-- ---- how many addresses a network has
-- addresses of w bits that begin with the bits of the network: those after them may be any
abbrev pub addresses_of : ℕ → List Bool → ℕ
addresses_of w network = 2 ^ (w - length network)

-- the same where the first bit is that of the family, 32 bits in IPv4 and 128 in IPv6; the network of no bits has both
abbrev pub ip_addresses_of : List Bool → ℕ
ip_addresses_of [] = 2 ^ 32 + 2 ^ 128
ip_addresses_of (false ∷ p) = addresses_of 32 p
ip_addresses_of (true ∷ p) = addresses_of 128 p

-- ---- free networks
module _ (IsNetwork : List Bool → Type 0) where
  -- a network of n bits in one of the networks
  pub record IsFreeNetwork (networks : List (List Bool)) (n : ℕ) (p : List Bool) : Type 0 where
    pub network : IsNetwork p
    pub len : length p ≡ n
    pub inside : Covers networks p

  -- the first of the free networks of n bits, or none where none is free
  abbrev pub IsFirstFree : List (List Bool) → ℕ → Option (List Bool) → Type 0
  IsFirstFree networks n (Some p) =
      (length p ≡ n) × Covers networks p × ((q : List Bool) → IsFreeNetwork networks n q → bit_cmp p q ≢ Greater)
  IsFirstFree networks n None = (q : List Bool) → ¬ (IsFreeNetwork networks n q)

  -- `size` is the number of addresses of a network
  module _ (size : List Bool → ℕ) where
    -- a network of the set with one of n bits inside, and no other such network has fewer addresses; of those with as
    -- many the first
    pub record IsTightest (networks : List (List Bool)) (n : ℕ) (q : List Bool) : Type 0 where
      pub here : Contains networks q
      pub tightest : (r p : List Bool) → Contains networks r → IsFreeNetwork (r ∷ []) n p
          → (size q < size r) ⊎ ((size q ≡ size r) × (bit_cmp q r ≢ Greater))

    -- the first free network of n bits in the smallest network of the set that has one, or none where none is free
    abbrev pub IsBestFree : List (List Bool) → ℕ → Option (List Bool) → Type 0
    IsBestFree networks n (Some p) = (q : List Bool) × IsTightest networks n q × IsFirstFree (q ∷ []) n (Some p)
    IsBestFree networks n None = (q : List Bool) → ¬ (IsFreeNetwork networks n q)

  -- ---- what a trait and private functions promise
  -- networks that begin with a network of one bit or more, for which there is this room, aren't longer than it lets
  abbrev pub IsRoom : List Bool → ℕ → Type 0
  IsRoom q room = (p : List Bool) → IsNetwork p → 0 < length q → BeginsWith p q → length p ≤ length q + room

-- of two networks of one bit or more, the one with less room has fewer addresses
abbrev pub TellsSize : (List Bool → ℕ) → List Bool → ℕ → List Bool → ℕ → Type 0
TellsSize size p room q other = 0 < length p → 0 < length q → (room < other) ↔ (size p < size q)

-- it has less room than the best so far, if there is one
abbrev pub HasLessRoom : Option ℕ → ℕ → Type 0
HasLessRoom None room = Unit {0}
HasLessRoom (Some best) room = room < best
