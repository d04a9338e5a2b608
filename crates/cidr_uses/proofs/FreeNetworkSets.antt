-- The free networks of the difference of two sets.
use Rattle.std.proofs.Common.{◌↔◌, ℕ, ◌≤◌, Bool, List, length, Option, Some, None}
use Rattle.cidr_table.specs.model.Cover.{Covers, IsFull, IsReduced}
use Rattle.cidr_sets.specs.model.Pools.{IsFreeNetwork, IsFirstFree}
use Rattle.cidr_sets.specs.model.Sets.{IsDifference}
use Rattle.cidr_uses.specs.FreeNetworks.{IsAvailable, IsFirstAvailable}
use Rattle.cidr_uses.proofs.Aggregates.{begins_begins}

module _ (IsNetwork : List Bool → Type 0) (n : ℕ) (pool used free : List (List Bool)) (h : IsDifference 129 pool used free)
    (one : (w : ℕ) (set : List (List Bool)) (p : List Bool) → IsReduced w set → length p ≤ w → IsFull w set p ↔ Covers set p) where
  available_free : (q : List Bool) → IsAvailable IsNetwork pool used n q → IsFreeNetwork IsNetwork free n q
  available_free q u = record {
    network = u.network;
    len = u.len;
    inside = (one 129 free q h.reduced u.within).0 (λ a la b. (h.exact a la).1 (u.unused a la b));
  }

  pub first_is_available : (r : Option (List Bool)) → IsFirstFree IsNetwork free n r → IsFirstAvailable IsNetwork pool used n r
  first_is_available None none = λ q u. none q (available_free q u)
  first_is_available (Some p) first = (
    first.0,
    λ a la b. (h.exact a la).0 (first.1.0, first.1.1, begins_begins a p first.1.0 b first.1.2),
    λ q u. first.2 q (available_free q u),
  )
