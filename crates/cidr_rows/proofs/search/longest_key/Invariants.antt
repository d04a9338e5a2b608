use Rattle.std.proofs.Common.{◌<◌, ◌≤◌, ℕ, length, get_or}
use Rattle.std.specs.List.Sorted.{IsStrictlySortedBy}
use Rattle.cidr.specs.model.Network.{BeginsWith}
use Rattle.cidr_rows.specs.Lengths.{AreLengths}
use Rattle.cidr_rows.proofs.search.longest_key.Given as goal

abbrev pub invariant-loop-end : goal.invariant-loop-end
invariant-loop-end g l = record {
  within : l.end ≤ length (g.K.Keys.keys l.rows);
  begins : BeginsWith (g.C.BitString.bits l.asked) (g.C.BitString.bits l.sought);
  left : IsStrictlySortedBy g.C.Ord.cmp (g.K.Keys.keys l.rows) → AreLengths g.C.BitString.bits (g.K.Keys.keys l.rows) l.lengths → (j : ℕ) → j < length (g.K.Keys.keys l.rows)
      → BeginsWith (g.C.BitString.bits l.asked) (g.C.BitString.bits (get_or (g.K.Keys.keys l.rows) j l.asked))
      → (j < l.end) × BeginsWith (g.C.BitString.bits l.sought) (g.C.BitString.bits (get_or (g.K.Keys.keys l.rows) j l.asked));
}

abbrev pub decreases-loop-end : goal.decreases-loop-end
decreases-loop-end g l = l.end
