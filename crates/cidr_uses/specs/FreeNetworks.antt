-- What is left of a pool: networks of which every address is in the pool and none is used. `IsNetwork` tells which
-- lists of bits are networks, and lists of 129 bits stand for the addresses.
use Rattle.std.specs.Prelude.{◌≡◌, ◌≢◌, ℕ, ◌≤◌, Bool, List, length, Option, Some, None}
use Rattle.std.specs.declared.cmp.Ordering.TheVariants.{Greater}
use Rattle.cidr.specs.model.Bits.{bit_cmp}
use Rattle.cidr.specs.model.Network.{BeginsWith}
use Rattle.cidr_table.specs.model.Cover.{Covers}

abbrev pub IsUnused : List (List Bool) → List (List Bool) → List Bool → Type 0
IsUnused pool used p = (a : List Bool) → length a ≡ 129 → BeginsWith a p → Covers pool a × ¬ (Covers used a)

module _ (IsNetwork : List Bool → Type 0) where
  pub record IsAvailable (pool used : List (List Bool)) (n : ℕ) (p : List Bool) : Type 0 where
    pub network : IsNetwork p
    pub len : length p ≡ n
    pub within : length p ≤ 129
    pub unused : IsUnused pool used p

  -- the first available network of n bits, or none where none is available
  abbrev pub IsFirstAvailable : List (List Bool) → List (List Bool) → ℕ → Option (List Bool) → Type 0
  IsFirstAvailable pool used n (Some p) =
      (length p ≡ n) × IsUnused pool used p × ((q : List Bool) → IsAvailable pool used n q → bit_cmp p q ≢ Greater)
  IsFirstAvailable pool used n None = (q : List Bool) → ¬ (IsAvailable pool used n q)
