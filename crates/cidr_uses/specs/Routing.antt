-- Routes: rows of a table, of which the longest key that an address or a network begins with decides.
use Rattle.std.specs.Prelude.{◌≡◌, ℕ, ◌+◌, ◌-◌, ◌^◌, ◌≤◌, min, Bool, List, [], length, Contains, Option, MatchOption}
use Rattle.cidr.specs.model.Network.{BeginsWith}
use Rattle.cidr_table.specs.model.FiniteMap.{IsInserted}
use Rattle.cidr_table.specs.model.Loading.{IsListed, IsLastPlace}

module _ {C V : Type 0} (bits : C → List Bool) (routes : List (C × V)) (asked : List Bool) where
  -- no key begins the asked bits
  abbrev pub HasNoRoute : Type 0
  HasNoRoute = (row : C × V) → Contains routes row → ¬ (BeginsWith asked (bits row.0))

  -- a row whose key begins the asked bits, and none whose key does is longer
  pub record IsRoute (route : C × V) : Type 0 where
    pub there : Contains routes route
    pub begins : BeginsWith asked (bits route.0)
    pub longest : (row : C × V) → Contains routes row → BeginsWith asked (bits row.0) → length (bits row.0) ≤ length (bits route.0)

-- the route of the asked bits had one hit less, unless it has the most that a u32 counts, and all other routes have theirs
pub record IsHit {C : Type 0} (bits : C → List Bool) (old : List (C × ℕ)) (asked : List Bool) (hits : ℕ) (new : List (C × ℕ)) : Type 0 where
  pub network : C
  pub before : ℕ
  pub route : IsRoute bits old asked (network, before)
  pub counted : hits ≡ min (before + 1) (2 ^ 32 - 1)
  pub after : IsInserted old network hits new

-- the bytes are a list of prefixes, each written as prefix bytes, and this is the last place of the network in it, or it
-- isn't there
abbrev pub IsLastListed : {C : Type 0} → (C → List Bool) → ℕ → List ℕ → C → Option ℕ → Type 0
IsLastListed {C} bits w bytes network place = (networks : List C) × IsListed bits w networks [] bytes
    × MatchOption place (¬ (Contains networks network)) (IsLastPlace networks network)
