use Rattle.std.proofs.Common.{◌≡◌, false, take}
use Rattle.std.specs.List.{list_any}
use Rattle.netset_commands.specs.Arguments.{short_option}
use Rattle.netset_commands.specs.Matching.{is_word}
use Rattle.netset_commands.specs.Table.{texts}
use Rattle.netset_commands.proofs.commands.arguments.short_option.Given as goal

abbrev pub invariant-loop-option : goal.invariant-loop-option
invariant-loop-option l = list_any (is_word (short_option l.letter)) (take l.option-index (texts l.options)) ≡ false
