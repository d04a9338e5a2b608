use Rattle.std.proofs.Common.{◌≡◌, ◌-◌, ◌≤◌, length, drop}
use Rattle.netset_commands.specs.Arguments.{value_behind, option_value}
use Rattle.netset_commands.specs.Command.{given}
use Rattle.netset_commands.specs.Table.{texts}
use Rattle.netset_commands.proofs.commands.arguments.option_value.Given as goal

abbrev pub invariant-loop-at : goal.invariant-loop-at
invariant-loop-at l = (l.at ≤ length l.values)
    × (option_value l.command l.name (texts l.values) ≡ value_behind l.command l.name (given l.found) (texts (drop l.at l.values)))

abbrev pub decreases-loop-at : goal.decreases-loop-at
decreases-loop-at l = length l.values - l.at
