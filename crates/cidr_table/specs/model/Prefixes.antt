-- Which keys of a table begin a look-up key, and which are inside a network. The look-up key is a list of bits: an
-- address or a network.
use Rattle.std.specs.Prelude.{◌≡◌, ◌↔◌, ℕ, ◌≤◌, Bool, List, length, map, Contains, slice_get, Option, Some, None}
use Rattle.std.specs.Option.{option_map}
use Rattle.std.specs.List.Sorted.{IsStrictlyIncreasing}
use Rattle.cidr.specs.model.Network.{BeginsWith}

module _ {C : Type 0} (bits : C → List Bool) where
  -- the key at this index begins the look-up key, and none that begins it is longer (RFC 1812, 5.2.4.3, longest match)
  pub record IsLongestAt (asked : List Bool) (keys : List C) (index : ℕ) : Type 0 where
    pub key : C
    pub here : slice_get keys index ≡ Some key
    pub begins : BeginsWith asked (bits key)
    pub longest : (other : C) → Contains keys other → BeginsWith asked (bits other) → length (bits other) ≤ length (bits key)

  -- the index of the longest match, or none where no key begins the look-up key
  abbrev pub IsLongestMatch : List Bool → List C → Option ℕ → Type 0
  IsLongestMatch asked keys (Some index) = IsLongestAt asked keys index
  IsLongestMatch asked keys None = (key : C) → Contains keys key → ¬ (BeginsWith asked (bits key))

  -- the rows whose key is in the outer network: it begins with the bits of that network
  abbrev pub AreInside : {V : Type 0} → List (C × V) → List Bool → List (C × V) → Type 0
  AreInside {V} rows outer inner = (row : C × V) → Contains inner row ↔ (Contains rows row × BeginsWith (bits row.0) outer)

  -- the row of the longest key that begins the asked bits (RFC 1812, 5.2.4.3, longest match)
  pub record IsLongestRow {V : Type 0} (asked : List Bool) (rows : List (C × V)) (row : C × V) : Type 0 where
    pub here : Contains rows row
    pub begins : BeginsWith asked (bits row.0)
    pub longest : (other : C × V) → Contains rows other → BeginsWith asked (bits other.0)
        → length (bits other.0) ≤ length (bits row.0)

  -- that row, or none where no row's key begins the asked bits
  abbrev pub IsLookedUp : {V : Type 0} → List Bool → List (C × V) → Option (C × V) → Type 0
  IsLookedUp asked rows (Some row) = IsLongestRow asked rows row
  IsLookedUp {V} asked rows None = (row : C × V) → Contains rows row → ¬ (BeginsWith asked (bits row.0))

  -- the value of that row, or none
  abbrev pub IsValueLookedUp : {V : Type 0} → List Bool → List (C × V) → Option V → Type 0
  IsValueLookedUp {V} asked rows value = (row : Option (C × V)) × IsLookedUp asked rows row × (value ≡ option_map (λ row. row.1) row)

  -- the rows whose key begins the asked bits, which are all routes that cover them
  abbrev pub AreMatching : {V : Type 0} → List Bool → List (C × V) → List (C × V) → Type 0
  AreMatching {V} asked rows matches = (row : C × V) → Contains matches row ↔ (Contains rows row × BeginsWith asked (bits row.0))

  -- each key is longer than the one before it
  abbrev pub AreShortestFirst : {V : Type 0} → List (C × V) → Type 0
  AreShortestFirst rows = IsStrictlyIncreasing (map (λ row. length (bits row.0)) rows)

  -- the rows whose key is not in the outer network
  abbrev pub AreOutside : {V : Type 0} → List (C × V) → List Bool → List (C × V) → Type 0
  AreOutside {V} rows outer rest = (row : C × V) → Contains rest row ↔ (Contains rows row × ¬ (BeginsWith (bits row.0) outer))
