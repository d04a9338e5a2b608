-- Where the keys that begin some bits stand among ascending keys: at the end of a chain, each key of which begins the one
-- before it. An end of 0 is the end of the chain.
use Rattle.std.specs.Prelude.{ℕ, ◌-◌, ◌<◌, ◌≤◌, Bool, List, slice_index_or}
use Rattle.cidr.specs.model.Network.{BeginsWith}

module _ {C : Type 0} (bits : C → List Bool) (keys : List C) where
  -- of the first `bound` keys those that begin the asked bits stand before `end`, and begin the key at end - 1
  pub record IsReached (any : C) (asked : List Bool) (bound end : ℕ) : Type 0 where
    pub within : end ≤ bound
    pub before : (j : ℕ) → j < bound → BeginsWith asked (bits (slice_index_or keys j any)) → j < end
    pub chained : (j : ℕ) → j < bound → BeginsWith asked (bits (slice_index_or keys j any))
        → BeginsWith (bits (slice_index_or keys (end - 1) any)) (bits (slice_index_or keys j any))
