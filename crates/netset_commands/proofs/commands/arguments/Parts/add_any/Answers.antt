use Rattle.std.proofs.Common.{◌∙◌, sym}
use Rattle.netset_commands.specs.Arguments.{no_parts, only_operand}
use Rattle.netset_commands.specs.Command.{given_parts}
use Rattle.netset_commands.proofs.Parts.{added_as, end_word, long_word, none_behind, operand_pushed, operand_word, short_word}
use Rattle.netset_commands.proofs.commands.arguments.Parts.add_any.Goals as goal

pub returns-then-eq : goal.returns-then-eq
returns-then-eq g c = (
  no_parts,
  end_word c.args.command c.args.word.now (sym c.if-eq.ensures),
  sym (none_behind (given_parts c.args.self.now)),
)

pub returns-then-not-is_option : goal.returns-then-not-is_option
returns-then-not-is_option g c = (
  only_operand c.args.word.now,
  operand_word c.args.command c.args.word.now (sym c.if-eq.ensures) (sym c.is_option.ensures ∙ c.if-not-is_option.true),
  operand_pushed c.args.self.now.options.items c.args.self.now.values.items c.args.self.now.operands.items c.push.new.items.items c.args.word c.in_ok-push.ensures.pushed,
)

pub returns-then-starts_with : goal.returns-then-starts_with
returns-then-starts_with g c =
    added_as _ _ (given_parts c.args.self.now) (given_parts c.add_long.new.self) (g.M.Memory.refused c.add_long.new.memory) c.add_long.result
    (long_word c.args.command c.args.word.now (sym c.if-eq.ensures) (sym c.is_option.ensures ∙ c.if-not-is_option.false)
    (sym (rw c.as_bytes.ensures.value at c.starts_with.ensures.value) ∙ c.if-starts_with.true))
    c.add_long.ensures

pub returns : goal.returns
returns g c =
    added_as _ _ (given_parts c.args.self.now) (given_parts c.add_short.new.self) (g.M.Memory.refused c.add_short.new.memory) c.add_short.result
    (short_word c.args.command c.args.word.now (sym c.if-eq.ensures) (sym c.is_option.ensures ∙ c.if-not-is_option.false)
    (sym (rw c.as_bytes.ensures.value at c.starts_with.ensures.value) ∙ c.if-starts_with.false))
    c.add_short.ensures
