use Rattle.std.proofs.Common.{◌≡◌, ◌++◌, map, take}
use Rattle.netset_commands.specs.Numbers.{row_values, slices}
use Rattle.cidr_lists.specs.Tables.{resolved}
use Rattle.netset_commands.proofs.input.numbers.push_values.Given as goal

abbrev pub invariant-loop-row : goal.invariant-loop-row
invariant-loop-row g l = slices l.values.items ≡ slices l.fn.values.items ++ row_values (map (resolved l.all) (take l.row-index l.rows))
