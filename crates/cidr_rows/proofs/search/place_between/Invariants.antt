use Rattle.std.proofs.Common.{◌≡◌, ◌+◌, ◌<◌, ◌≤◌, true}
use Rattle.std.specs.List.Sorted.{IsStrictlySortedBy}
use Rattle.cidr_rows.specs.Between.{IsBetween}
use Rattle.cidr_rows.proofs.Halving.{IsNarrow}
use Rattle.cidr_rows.proofs.search.place_between.Given as goal

abbrev pub invariant-loop-left : goal.invariant-loop-left
invariant-loop-left g l = record {
  within : l.low + l.left ≤ l.end;
  told : l.found ≡ true → l.low + l.left < l.end;
  narrow : IsStrictlySortedBy g.C.Ord.cmp (g.K.Keys.keys l.rows)
      → IsBetween g.C.Ord.cmp (g.K.Keys.keys l.rows) l.key l.initial.low (l.initial.low + l.initial.left) l.end
      → IsNarrow g.C.Ord.cmp (g.K.Keys.keys l.rows) l.key l.end l.low l.left l.found;
}

abbrev pub decreases-loop-left : goal.decreases-loop-left
decreases-loop-left g l = l.left
