use Rattle.std.proofs.Common.{ap, drop, ◌∙◌}
use Rattle.std.proofs.lemmas.List.{take_rest}
use Rattle.netset_commands.specs.Command.{given_parts}
use Rattle.netset_commands.proofs.Parts.{error_of, letters_end, no_letter, no_letters}
use Rattle.netset_commands.proofs.commands.arguments.Parts.add_letters.Goals as goal

pub loop-letter-init : goal.loop-letter-init
loop-letter-init g c = no_letters c.args.command (given_parts c.args.self.now)

pub returns-in_default : goal.returns-in_default
returns-in_default g c =
    error_of _ _ (g.M.Memory.refused c.loop-letter.memory) c.no_option.result
    (no_letter c.args.command c.args.word.now _ c.loop-letter.letter-index (take_rest c.as_bytes.result.now 1 ∙ ap (drop 1) c.as_bytes.ensures.value) c.loop-letter-test.true
    c.in_default.ensures)
    (c.no_option.ensures (g.M.Memory.refused c.loop-letter.memory))

pub returns : goal.returns
returns g c =
    letters_end c.args.command (given_parts c.args.self.now) (given_parts c.loop-letter.self) c.args.word.now _ c.loop-letter.letter-index
    (take_rest c.as_bytes.result.now 1 ∙ ap (drop 1) c.as_bytes.ensures.value) c.loop-letter-test.false c.loop-letter.invariant
