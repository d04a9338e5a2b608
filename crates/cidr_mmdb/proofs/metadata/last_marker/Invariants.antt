use Rattle.std.proofs.Common.{◌≤◌, ◌+◌, ℕ, length}
use Rattle.cidr_mmdb.specs.Metadata.{HasMarker}
use Rattle.cidr_mmdb.proofs.metadata.last_marker.Given as goal

abbrev pub invariant-loop-end : goal.invariant-loop-end
invariant-loop-end l = record {
  within : l.end + 13 ≤ length l.bytes;
  none : (k : ℕ) → l.end ≤ k → HasMarker l.bytes k → ⊥;
}

abbrev pub decreases-loop-end : goal.decreases-loop-end
decreases-loop-end l = l.end
