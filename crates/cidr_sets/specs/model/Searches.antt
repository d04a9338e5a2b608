-- Look-ups in networks that ascend.
use Rattle.std.specs.Prelude.{◌≡◌, ◌≢◌, ℕ, ◌<◌, ◌≤◌, Bool, List, length, slice_index_or, Contains, Option, Some, None}
use Rattle.std.specs.declared.cmp.Ordering.TheVariants.{Greater}
use Rattle.cidr.specs.model.Bits.{bit_cmp}
use Rattle.cidr.specs.model.Network.{BeginsWith}

-- what a probe shows: the networks that it compares with, and how many comparisons it has made
pub record ProbedNetworks (C : Type 0) : Type 0 where
  pub networks : List C
  pub comparisons : ℕ

-- ---- what private functions promise: where a network stands among the others
-- those below the index come before the asked one or are the same, and the others come after it
pub record IsUpto (networks : List (List Bool)) (asked : List Bool) (index : ℕ) : Type 0 where
  pub within : index ≤ length networks
  pub before : (j : ℕ) → j < index → bit_cmp (slice_index_or networks j asked) asked ≢ Greater
  pub behind : (j : ℕ) → index ≤ j → j < length networks → bit_cmp (slice_index_or networks j asked) asked ≡ Greater

-- a network that lies in the outer one, or none where no network does
abbrev pub IsFirstInside : List (List Bool) → List Bool → Option (List Bool) → Type 0
IsFirstInside networks outer (Some q) = Contains networks q × BeginsWith q outer × (length outer < length q)
IsFirstInside networks outer None = (q : List Bool) → Contains networks q → ¬ (BeginsWith q outer)
