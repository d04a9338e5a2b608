use Rattle.std.proofs.Common.{take}
use Rattle.netset_commands.specs.Command.{given_parts}
use Rattle.netset_commands.proofs.Parts.{AreAdded}
use Rattle.netset_commands.proofs.commands.arguments.Parts.add_letters.Given as goal

abbrev pub invariant-loop-letter : goal.invariant-loop-letter
invariant-loop-letter g l = AreAdded l.command (given_parts l.fn.self) (given_parts l.self) (take l.letter-index l.letters)
