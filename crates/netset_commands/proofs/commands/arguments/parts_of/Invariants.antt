use Rattle.netset_commands.specs.Command.{given_parts}
use Rattle.netset_commands.proofs.Parts.{Left}
use Rattle.netset_commands.proofs.commands.arguments.parts_of.Given as goal

abbrev pub invariant-loop-word : goal.invariant-loop-word
invariant-loop-word g l = Left l.command l.words l.word-index (given_parts l.parts) l.next
