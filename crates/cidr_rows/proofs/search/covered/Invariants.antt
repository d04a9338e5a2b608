use Rattle.std.proofs.Common.{◌+◌, ◌<◌, ◌≤◌, ℕ, length, get_or}
use Rattle.std.specs.List.Sorted.{IsStrictlySortedBy}
use Rattle.cidr.specs.model.Network.{BeginsWith}
use Rattle.cidr_rows.proofs.search.covered.Given as goal

abbrev pub invariant-loop-left : goal.invariant-loop-left
invariant-loop-left g l = record {
  from : l.from ≤ l.to;
  within : l.to + l.left ≤ length (g.K.Keys.keys l.rows);
  inside : IsStrictlySortedBy g.C.Ord.cmp (g.K.Keys.keys l.rows) → (j : ℕ) → l.from ≤ j → j < l.to
      → BeginsWith (g.C.BitString.bits (get_or (g.K.Keys.keys l.rows) j l.outer)) (g.C.BitString.bits l.outer);
  behind : IsStrictlySortedBy g.C.Ord.cmp (g.K.Keys.keys l.rows) → (j : ℕ) → l.to + l.left ≤ j → j < length (g.K.Keys.keys l.rows)
      → ¬ (BeginsWith (g.C.BitString.bits (get_or (g.K.Keys.keys l.rows) j l.outer)) (g.C.BitString.bits l.outer));
}

abbrev pub decreases-loop-left : goal.decreases-loop-left
decreases-loop-left g l = l.left
