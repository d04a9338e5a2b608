use Rattle.std.proofs.Common.{◌≡◌, ℕ, ◌<◌, ◌≤◌, slice_get, Some}
use Rattle.cidr_lists.specs.Findings.{AreBitsInside}
use Rattle.cidr_c.proofs.nested.outer_of.Given as goal

-- none of the rows from `end` on is around this one
abbrev pub invariant-loop-end : goal.invariant-loop-end
invariant-loop-end g l = record {
  upto : l.end ≤ l.inner;
  last : (k : ℕ) (row other : g.row.C.Denot × ℕ) → l.end ≤ k → k < l.inner → slice_get l.rows l.inner ≡ Some row → slice_get l.rows k ≡ Some other
      → ¬ (AreBitsInside (g.C.BitString.bits row.0) (g.C.BitString.bits other.0));
}

abbrev pub decreases-loop-end : goal.decreases-loop-end
decreases-loop-end g l = l.end
