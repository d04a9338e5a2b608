use Rattle.std.proofs.Common.{◌≡◌, ◌↔◌, ◌<◌, ℕ, false, Some}
use Rattle.std.specs.List.{Contains, slice_get}
use Rattle.std.specs.List.Sorted.{IsStrictlyIncreasing}
use Rattle.cidr_routes.proofs.shadows.unmarked.Given as goal

-- the indices so far without a mark
abbrev pub invariant-loop-i : goal.invariant-loop-i
invariant-loop-i l = record {
  indices : (j : ℕ) → Contains l.out.items j ↔ ((j < l.i) × (slice_get l.marks j ≡ Some false));
  ascending : IsStrictlyIncreasing l.out.items;
}
