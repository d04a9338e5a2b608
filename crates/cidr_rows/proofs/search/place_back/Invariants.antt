use Rattle.std.proofs.Common.{◌≡◌, ℕ, ◌<◌, ◌≤◌, get_or}
use Rattle.std.specs.List.Sorted.{IsStrictlySortedBy}
use Rattle.std.specs.declared.cmp.Ordering.TheVariants.{Greater}
use Rattle.cidr_rows.proofs.search.place_back.Given as goal

abbrev pub invariant-loop-step : goal.invariant-loop-step
invariant-loop-step g l = record {
  within : l.upto ≤ l.end;
  goes : 0 < l.step;
  behind : IsStrictlySortedBy g.C.Ord.cmp (g.K.Keys.keys l.rows) → (j : ℕ) → l.upto ≤ j → j < l.end
      → g.C.Ord.cmp (get_or (g.K.Keys.keys l.rows) j l.key) l.key ≡ Greater;
}

abbrev pub decreases-loop-step : goal.decreases-loop-step
decreases-loop-step g l = l.upto
