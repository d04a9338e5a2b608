use Rattle.std.proofs.Common.{◌≡◌, take}
use Rattle.netset_commands.specs.Fewest.{with_numbers}
use Rattle.netset_commands.proofs.commands.smallest.no_holes.Given as goal

abbrev pub invariant-loop-row : goal.invariant-loop-row
invariant-loop-row g l = l.made.items ≡ with_numbers (take l.row-index l.rows)
