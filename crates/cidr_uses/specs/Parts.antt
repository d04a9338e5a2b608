-- What it is to cut a network into others.
use Rattle.std.specs.Prelude.{◌≡◌, ℕ, Bool, List, length}
use Rattle.std.specs.List.{Contains}
use Rattle.cidr.specs.declared.family.Family.{Family}
use Rattle.cidr.specs.model.Network.{BeginsWith}

-- each address of the network is in one of the parts, and in one only
abbrev pub IsPartition : ℕ → List Bool → List (Family × List Bool) → Type 0
IsPartition w network parts = (a : List Bool) → length a ≡ w → BeginsWith a network
    → (q : Family × List Bool) × Contains parts q × BeginsWith a q.1
    × ((p : Family × List Bool) → Contains parts p → BeginsWith a p.1 → p ≡ q)
