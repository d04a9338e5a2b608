use Rattle.std.proofs.Common.{◌∙◌, sym}
use Rattle.netset_commands.specs.Arguments.{only_value}
use Rattle.netset_commands.specs.Command.{given_parts}
use Rattle.netset_commands.proofs.Parts.{added_as, letter_word, short_value, value_pushed}
use Rattle.netset_commands.proofs.commands.arguments.Parts.add_short.Goals as goal

pub returns-then-takes_value : goal.returns-then-takes_value
returns-then-takes_value g c = (
  only_value c.args.word.now,
  short_value c.args.command c.args.word.now (sym c.takes_value.ensures ∙ c.if-takes_value.true),
  value_pushed c.args.self.now.options.items c.args.self.now.values.items c.args.self.now.operands.items c.push.new.items.items c.args.word c.in_ok-push.ensures.pushed,
)

pub returns : goal.returns
returns g c =
    added_as _ _ (given_parts c.args.self.now) (given_parts c.add_letters.new.self) (g.M.Memory.refused c.add_letters.new.memory) c.add_letters.result
    (letter_word c.args.command c.args.word.now (sym c.takes_value.ensures ∙ c.if-takes_value.false))
    c.add_letters.ensures
