use Rattle.std.proofs.Common.{◌≢◌, take}
use Rattle.std.specs.List.{All}
use Rattle.cidr_lists.specs.Tables.{value_at}
use Rattle.netset_commands.proofs.commands.smallest.has_value.Given as goal

abbrev pub invariant-loop-row : goal.invariant-loop-row
invariant-loop-row g l = All (λ row. value_at l.all row.1 ≢ l.value) (take l.row-index l.rows)
