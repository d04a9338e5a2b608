use Rattle.std.proofs.Common.{◌≡◌, ℕ, ◌-◌, ◌<◌, ◌≤◌, get_or}
use Rattle.cidr_files.proofs.checking.are_offsets.Given as goal

abbrev pub invariant-loop-i : goal.invariant-loop-i
invariant-loop-i g l = record {
  none : l.i ≡ 0 → l.before ≡ 0;
  before : 0 < l.i → l.before ≡ get_or (g.T.Words.words l.offsets) (l.i - 1) 0;
  ascending : (i k : ℕ) → i ≤ k → k < l.i → get_or (g.T.Words.words l.offsets) i 0 ≤ get_or (g.T.Words.words l.offsets) k 0;
}
