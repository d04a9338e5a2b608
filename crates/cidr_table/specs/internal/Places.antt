-- The index of a key among the first `end` keys of an ascending list.
use Rattle.std.specs.Prelude.{ℕ, ◌≡◌, ◌≢◌, ◌<◌, ◌≤◌, Bool, List, length, take, filter, Result, Ok, Err, slice_index_or}
use Rattle.std.specs.declared.cmp.Ordering.{Ordering}
use Rattle.std.specs.declared.cmp.Ordering.TheVariants.{Less, Equal, Greater}
use Rattle.cidr.specs.model.Bits.{bit_cmp, bit_eq}

module _ {C : Type 0} (cmp : C → C → Ordering) (keys : List C) (key : C) (end : ℕ) where
  -- an equal key stands at this index
  pub record IsAt (i : ℕ) : Type 0 where
    pub within : i < end
    pub equal : cmp (slice_index_or keys i key) key ≡ Equal

  -- lesser keys stand before this index, and greater ones from it on
  pub record BelongsAt (i : ℕ) : Type 0 where
    pub within : i ≤ end
    pub before : (j : ℕ) → j < i → cmp (slice_index_or keys j key) key ≡ Less
    pub behind : (j : ℕ) → i ≤ j → j < end → cmp (slice_index_or keys j key) key ≡ Greater

  -- `Ok` of the index of an equal key, or `Err` of that where one belongs (std's `binary_search`)
  abbrev pub IsPlace : Result ℕ ℕ → Type 0
  IsPlace (Ok i) = IsAt i
  IsPlace (Err i) = BelongsAt i

-- `Ok` of n where the key is the first n bits of the look-up key, and else `Err` of n where longer beginnings of that
-- come after the key
abbrev pub IsShared : List Bool → List Bool → ℕ → Result ℕ ℕ → Type 0
IsShared key asked most (Ok n) = (n ≤ most) × (key ≡ take n asked)
IsShared key asked most (Err n) = (n ≤ most) × ((m : ℕ) → n < m → m ≤ most → bit_cmp key (take m asked) ≡ Less)

-- the keys before this index are less than the look-up key, and none from it on is
pub record IsLowerBound {C : Type 0} (cmp : C → C → Ordering) (keys : List C) (key : C) (end i : ℕ) : Type 0 where
  pub within : i ≤ end
  pub before : (j : ℕ) → j < i → cmp (slice_index_or keys j key) key ≡ Less
  pub behind : (j : ℕ) → i ≤ j → j < end → cmp (slice_index_or keys j key) key ≢ Less

-- whether the bits begin with those of the outer network
abbrev pub begins_with : List Bool → List Bool → Bool
begins_with a outer = bit_eq (take (length outer) a) outer

-- the rows whose key begins the asked bits, in the order of the rows
abbrev pub matching : {C V : Type 0} → (C → List Bool) → List Bool → List (C × V) → List (C × V)
matching bits asked rows = filter (λ row. begins_with asked (bits row.0)) rows
