-- Where a key belongs, as far as a search has come.
use Rattle.std.specs.Prelude.{ℕ, ◌≡◌, ◌<◌, ◌≤◌, List, slice_index_or}
use Rattle.std.specs.declared.cmp.Ordering.{Ordering}
use Rattle.std.specs.declared.cmp.Ordering.TheVariants.{Less, Greater}

-- the keys before `low` are less, and of the first `end` those from `upto` on are greater
pub record IsBetween {C : Type 0} (cmp : C → C → Ordering) (keys : List C) (key : C) (low upto end : ℕ) : Type 0 where
  pub before : (j : ℕ) → j < low → cmp (slice_index_or keys j key) key ≡ Less
  pub behind : (j : ℕ) → upto ≤ j → j < end → cmp (slice_index_or keys j key) key ≡ Greater
