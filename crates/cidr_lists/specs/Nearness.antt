-- What private functions promise of what stands near the networks of lines. A row is a network of one family and the
-- index of its line.
use Rattle.std.specs.Prelude.{◌≡◌, ◌≢◌, ◌↔◌, ℕ, ◌<◌, ◌≤◌, Bool, List, [], ◌∷◌, ◌++◌, length, set, Contains, slice_get, Option, Some, None, option_to_list}
use Rattle.std.specs.declared.cmp.Ordering.TheVariants.{Less, Greater}
use Rattle.cidr.specs.either.IpNetwork.{network_bits}
use Rattle.cidr.specs.model.Bits.{bit_cmp}
use Rattle.cidr.specs.model.Network.{BeginsWith}
use Rattle.cidr.specs.declared.cidr.combined.IpCidr.{IpCidr}
use Rattle.cidr.specs.declared.cidr.combined.IpCidr.TheVariants.{V4, V6}
use Rattle.cidr_ext.specs.model.Tree.{AreSiblings}
use Rattle.cidr_lists.specs.Findings.{AreHalves, AreBitsInside, IsInside}
use Rattle.cidr_lists.specs.declared.near.Near.{Near}
use Rattle.cidr_lists.specs.declared.near.Numbered.{Numbered}

-- ---- of networks
-- this is the first index of the network
abbrev pub IsFirstIndex : List IpCidr → IpCidr → ℕ → Type 0
IsFirstIndex networks network i = (slice_get networks i ≡ Some network) × ((j : ℕ) → slice_get networks j ≡ Some network → i ≤ j)

-- the first index of the longest network that this one is inside, or none
abbrev pub IsAroundAt : List IpCidr → IpCidr → Option ℕ → Type 0
IsAroundAt networks network None = (j : ℕ) (other : IpCidr) → slice_get networks j ≡ Some other → ¬ (IsInside network other)
IsAroundAt networks network (Some i) = (outer : IpCidr) × IsFirstIndex networks outer i × IsInside network outer
    × ((j : ℕ) (other : IpCidr) → slice_get networks j ≡ Some other → IsInside network other
    → length (network_bits other) ≤ length (network_bits outer))

-- the first index of the other half, or none
abbrev pub IsHalfAt : List IpCidr → IpCidr → Option ℕ → Type 0
IsHalfAt networks network None = (j : ℕ) (other : IpCidr) → slice_get networks j ≡ Some other → ¬ (AreHalves network other)
IsHalfAt networks network (Some i) = (other : IpCidr) × AreHalves network other × IsFirstIndex networks other i

-- what stands near a network
abbrev pub IsNear : List IpCidr → IpCidr → Near → Type 0
IsNear networks network near =
    IsFirstIndex networks network near.first × IsAroundAt networks network near.outer × IsHalfAt networks network near.half

-- at each index stands the first one of its network, and there what stands near it
pub record AreNear (networks : List IpCidr) (near : List Near) : Type 0 where
  pub size : length near ≡ length networks
  pub each : (i : ℕ) (network : IpCidr) (one : Near) → slice_get networks i ≡ Some network → slice_get near i ≡ Some one
      → IsFirstIndex networks network one.first
      × (one.first ≡ i → IsAroundAt networks network one.outer × IsHalfAt networks network one.half)

-- ---- of rows
-- the rows are the networks of a family, each with its index
abbrev pub AreRowsOf : (List Bool → IpCidr) → List IpCidr → List (List Bool × ℕ) → Type 0
AreRowsOf of networks rows = (row : List Bool × ℕ) → Contains rows row ↔ (slice_get networks row.1 ≡ Some (of row.0))

-- the same of both families
abbrev pub AreNumbered : List IpCidr → Numbered → Type 0
AreNumbered networks rows = AreRowsOf V4 networks rows.v4.items × AreRowsOf V6 networks rows.v6.items

-- rows of different networks have different indices, all below the count
pub record AreRows {C : Type 0} (rows : List (C × ℕ)) (count : ℕ) : Type 0 where
  pub within : (row : C × ℕ) → Contains rows row → row.1 < count
  pub one : (a b : C × ℕ) → Contains rows a → Contains rows b → a.1 ≡ b.1 → a.0 ≡ b.0

-- there is a row of the network
abbrev pub HasRow : {C : Type 0} → List (C × ℕ) → C → Type 0
HasRow {C} rows network = (i : ℕ) × Contains rows (network, i)

-- the rows go up by network, and those of one network by index
abbrev pub AreRowsInOrder : {C : Type 0} → (C → List Bool) → List (C × ℕ) → Type 0
AreRowsInOrder {C} bits rows = (i j : ℕ) (a b : C × ℕ) → i ≤ j → slice_get rows i ≡ Some a → slice_get rows j ≡ Some b
    → (bit_cmp (bits a.0) (bits b.0) ≢ Greater) × (a.0 ≡ b.0 → a.1 ≤ b.1)

-- the last row, or none where there are no rows
abbrev pub IsLast : {C : Type 0} → List (C × ℕ) → Option (C × ℕ) → Type 0
IsLast rows None = rows ≡ []
IsLast {C} rows (Some row) = (front : List (C × ℕ)) × (rows ≡ front ++ row ∷ [])

-- the least index of a network among rows
abbrev pub IsLeast : {C : Type 0} → List (C × ℕ) → C → ℕ → Type 0
IsLeast {C} rows network i = Contains rows (network, i) × ((j : ℕ) → Contains rows (network, j) → i ≤ j)

-- that of the longest network that this one is inside, or none
abbrev pub IsRowAround : {C : Type 0} → (C → List Bool) → List (C × ℕ) → C → Option ℕ → Type 0
IsRowAround {C} bits rows network None = (row : C × ℕ) → Contains rows row → ¬ (AreBitsInside (bits network) (bits row.0))
IsRowAround {C} bits rows network (Some i) = (outer : C) × IsLeast rows outer i × AreBitsInside (bits network) (bits outer)
    × ((row : C × ℕ) → Contains rows row → AreBitsInside (bits network) (bits row.0) → length (bits row.0) ≤ length (bits outer))

-- that of the other half, or none
abbrev pub IsRowHalf : {C : Type 0} → (C → List Bool) → List (C × ℕ) → C → Option ℕ → Type 0
IsRowHalf {C} bits rows network None = (row : C × ℕ) → Contains rows row → ¬ (AreSiblings (bits network) (bits row.0))
IsRowHalf {C} bits rows network (Some i) = (other : C) × IsLeast rows other i × AreSiblings (bits network) (bits other)

-- the least index of the network of a row, and where it is that of the row, what stands near it among these rows
abbrev pub IsRowNear : {C : Type 0} → (C → List Bool) → List (C × ℕ) → C × ℕ → Near → Type 0
IsRowNear bits rows row near = IsLeast rows row.0 near.first
    × (near.first ≡ row.1 → IsRowAround bits rows row.0 near.outer × IsRowHalf bits rows row.0 near.half)

-- this is kept at the index of each row
abbrev pub AreNearKept : {C : Type 0} → (C → List Bool) → List (C × ℕ) → List Near → Type 0
AreNearKept {C} bits rows near =
    (row : C × ℕ) → Contains rows row → (one : Near) × (slice_get near row.1 ≡ Some one) × IsRowNear bits rows row one

-- and at all other indices stands what stood there
pub record AreOthersSame {C : Type 0} (rows : List (C × ℕ)) (old new : List Near) : Type 0 where
  pub size : length new ≡ length old
  pub same : (i : ℕ) → ((network : C) → ¬ (Contains rows (network, i))) → slice_get new i ≡ slice_get old i

-- ---- the pass
-- each network is inside those before it
abbrev pub IsChain : {C : Type 0} → (C → List Bool) → List (C × ℕ) → Type 0
IsChain bits [] = Unit {0}
IsChain {C} bits (outer ∷ rows) =
    ((row : C × ℕ) → Contains rows row → AreBitsInside (bits row.0) (bits outer.0)) × IsChain bits rows

-- Of the rows passed these are open, each with the least index of its network: a chain that has what a network behind
-- them all may be inside, and its other half.
pub record AreOpen {C : Type 0} (bits : C → List Bool) (passed nest : List (C × ℕ)) : Type 0 where
  pub chain : IsChain bits nest
  pub least : (row : C × ℕ) → Contains nest row → IsLeast passed row.0 row.1
  pub around : (row : C × ℕ) (next : C) → Contains passed row
      → ((other : C × ℕ) → Contains passed other → bit_cmp (bits other.0) (bits next) ≢ Greater)
      → BeginsWith (bits next) (bits row.0) → HasRow nest row.0
  pub half : (row : C × ℕ) (next : C) → Contains passed row
      → ((other : C × ℕ) → Contains passed other → bit_cmp (bits other.0) (bits next) ≡ Less)
      → AreSiblings (bits next) (bits row.0) → HasRow nest row.0

-- what the rows passed have left
abbrev pub IsPassed : {C : Type 0} → (C → List Bool) → List (C × ℕ) → List Near → List (C × ℕ) → Type 0
IsPassed bits passed near nest = AreNearKept bits passed near × AreOpen bits passed nest

-- While a network closes open ones, of which this one was the last: those left have what it is inside, and they or the
-- last one closed are its other half, if it is new.
pub record IsClosing {C : Type 0} (bits : C → List Bool) (passed : List (C × ℕ)) (next : C) (nest : List (C × ℕ)) (closed : Option (C × ℕ)) : Type 0 where
  pub chain : IsChain bits (nest ++ option_to_list closed)
  pub least : (row : C × ℕ) → Contains (nest ++ option_to_list closed) row → IsLeast passed row.0 row.1
  pub around : (row : C × ℕ) → Contains passed row → BeginsWith (bits next) (bits row.0) → HasRow nest row.0
  pub half : ¬ (HasRow passed next) → (row : C × ℕ) → Contains passed row → AreSiblings (bits next) (bits row.0)
      → HasRow (nest ++ option_to_list closed) row.0

-- and when it has closed them: those left contain it
pub record IsClosed {C : Type 0} (bits : C → List Bool) (passed : List (C × ℕ)) (next : C) (nest : List (C × ℕ)) (closed : Option (C × ℕ)) : Type 0 where
  pub closing : IsClosing bits passed next nest closed
  pub contain : (row : C × ℕ) → Contains nest row → BeginsWith (bits next) (bits row.0)

abbrev pub ClosesAll : {C : Type 0} → (C → List Bool) → C → List (C × ℕ) → List (C × ℕ) → Option (C × ℕ) → Type 0
ClosesAll {C} bits next old new closed =
    (passed : List (C × ℕ)) → IsClosing bits passed next old None → IsClosed bits passed next new closed

-- the index of a row of the same network, or none where there is no such row
abbrev pub IsSameRow : {C : Type 0} → Option (C × ℕ) → C → Option ℕ → Type 0
IsSameRow {C} found network None = (row : C × ℕ) → found ≡ Some row → row.0 ≢ network
IsSameRow found network (Some i) = found ≡ Some (network, i)

-- the index of the other half, or none where it was not closed last
abbrev pub IsClosedHalf : {C : Type 0} → (C → List Bool) → Option (C × ℕ) → C → Option ℕ → Type 0
IsClosedHalf {C} bits closed network None = (row : C × ℕ) → closed ≡ Some row → ¬ (AreSiblings (bits network) (bits row.0))
IsClosedHalf {C} bits closed network (Some i) = (other : C) × (closed ≡ Some (other, i)) × AreSiblings (bits network) (bits other)

-- the first index of what stands at an index is told anew
abbrev pub PutsFirst : List Near → ℕ → ℕ → List Near → Type 0
PutsFirst old index first new = (one : Near) × (slice_get old index ≡ Some one) × (new ≡ set old index (record one { first = first }))

-- the other half of what stands at an index is told, if there is an index
abbrev pub PutsHalf : List Near → Option ℕ → ℕ → List Near → Type 0
PutsHalf old None half new = new ≡ old
PutsHalf old (Some i) half new = (one : Near) × (slice_get old i ≡ Some one) × (new ≡ set old i (record one { half = Some half }))
