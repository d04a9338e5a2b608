-- Rows of networks in order, and the smallest network around that of each: what private functions promise each other.
use Rattle.std.specs.Prelude.{◌≡◌, ◌⊎◌, ◌↔◌, ℕ, ◌-◌, ◌<◌, ◌≤◌, Bool, List, Contains, length, slice_get, slice_index_or, Some}
use Rattle.cidr.specs.either.IpNetwork.{any_bits}
use Rattle.cidr.specs.declared.cidr.any.AnyIpCidr.{AnyIpCidr}
use Rattle.cidr_lists.specs.Findings.{AreBitsInside}
use Rattle.cidr_lists.specs.Nearness.{AreRowsInOrder}
use Rattle.cidr_c.specs.calls.Lookups.{no_index}
use Rattle.cidr_c.specs.calls.Ordering.{IsNearestIndex}
use Rattle.cidr_c.specs.declared.nested.Nested.{Nested}

module _ {C : Type 0} (bits : C → List Bool) (rows : List (C × ℕ)) where
  -- the last of the rows before one whose network that of this one is inside is the last of the first `end`, or there is none
  pub record IsOuter (inner end : ℕ) : Type 0 where
    pub upto : end ≤ inner
    pub around : 0 < end → (row outer : C × ℕ) → slice_get rows inner ≡ Some row → slice_get rows (end - 1) ≡ Some outer
        → AreBitsInside (bits row.0) (bits outer.0)
    pub last : (k : ℕ) (row other : C × ℕ) → end ≤ k → k < inner → slice_get rows inner ≡ Some row → slice_get rows k ≡ Some other
        → ¬ (AreBitsInside (bits row.0) (bits other.0))

  -- those of the first n rows
  pub record AreOuters (outers : List ℕ) (n : ℕ) : Type 0 where
    pub size : length outers ≡ n
    pub each : (inner : ℕ) → inner < n → IsOuter inner (slice_index_or outers inner 0)

-- the index of the last of the first `end` rows, or that which stands for none
abbrev pub IsIndexBefore : {C : Type 0} → List (C × ℕ) → ℕ → ℕ → Type 0
IsIndexBefore {C} rows end index = ((end ≡ 0) × (index ≡ no_index))
    ⊎ ((0 < end) × ((outer : C × ℕ) → slice_get rows (end - 1) ≡ Some outer → index ≡ outer.1))

-- the rows are the networks of a list, each with its index
abbrev pub AreRowsOfList : {C : Type 0} → List C → List (C × ℕ) → Type 0
AreRowsOfList {C} networks rows = (row : C × ℕ) → Contains rows row ↔ (slice_get networks row.1 ≡ Some row.0)

-- each network of the list has its own
abbrev pub AreNearestPut : List AnyIpCidr → List ℕ → Type 0
AreNearestPut networks out = (i : ℕ) (network : AnyIpCidr) → slice_get networks i ≡ Some network
    → (answer : ℕ) × (slice_get out i ≡ Some answer) × IsNearestIndex networks network answer

-- the rows of a list in order, with what is around each
pub record AreNested (networks : List AnyIpCidr) (nested : Nested) : Type 0 where
  pub rows : AreRowsOfList networks nested.rows.items
  pub ordered : AreRowsInOrder any_bits nested.rows.items
  pub outers : AreOuters any_bits nested.rows.items nested.outers.items (length nested.rows.items)
