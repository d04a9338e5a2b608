use Rattle.std.proofs.Common.{◌∙◌, sym}
use Rattle.netset_commands.specs.Arguments.{only_operand}
use Rattle.netset_commands.proofs.Parts.{error_of, no_topic, operand_pushed, topic}
use Rattle.netset_commands.proofs.commands.arguments.Parts.add_topic.Goals as goal

pub returns-then-not-is_topic : goal.returns-then-not-is_topic
returns-then-not-is_topic g c =
    error_of _ _ (g.M.Memory.refused c.args.memory.now) c.no_option.result
    (no_topic c.args.command c.args.word.now (sym c.is_topic.ensures ∙ c.if-not-is_topic.true))
    (c.no_option.ensures (g.M.Memory.refused c.args.memory.now))

pub returns : goal.returns
returns g c = (
  only_operand c.args.word.now,
  topic c.args.command c.args.word.now (sym c.is_topic.ensures ∙ c.if-not-is_topic.false),
  operand_pushed c.args.self.now.options.items c.args.self.now.values.items c.args.self.now.operands.items c.push.new.items.items c.args.word c.in_ok-push.ensures.pushed,
)
