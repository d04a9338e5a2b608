use Rattle.std.proofs.Common.{ℕ, ◌+◌, ◌≤◌}
use Rattle.cidr_rows.specs.Lengths.{MayHave}
use Rattle.cidr_rows.proofs.lengths.longest_length.Given as goal

abbrev pub invariant-loop-end : goal.invariant-loop-end
invariant-loop-end l = record {
  within : l.end ≤ l.most + 1;
  behind : (n : ℕ) → l.end ≤ n → n ≤ l.most → ¬ (MayHave l.lengths n);
}

abbrev pub decreases-loop-end : goal.decreases-loop-end
decreases-loop-end l = l.end
