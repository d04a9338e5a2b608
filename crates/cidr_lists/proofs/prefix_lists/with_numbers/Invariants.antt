use Rattle.std.proofs.Common.{◌≡◌, ◌*◌, ◌^◌, ◌≤◌, ◌++◌, drop}
use Rattle.cidr_lists.specs.PrefixOrder.{with_numbers}
use Rattle.cidr_lists.proofs.prefix_lists.with_numbers.Given as goal

-- those of the rows so far and of the rows behind them are all
abbrev pub invariant-loop-row : goal.invariant-loop-row
invariant-loop-row g l =
    (l.out.items ++ with_numbers l.most (drop l.row-index l.rows) ≡ with_numbers 0 l.rows) × (l.most ≤ 2 ^ 32 * l.row-index)
