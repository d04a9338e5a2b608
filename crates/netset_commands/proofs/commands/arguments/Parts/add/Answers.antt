use Rattle.std.proofs.Common.{refl}
use Rattle.netset_commands.specs.Arguments.{only_operand, only_value}
use Rattle.netset_commands.proofs.Parts.{operand_pushed, value_pushed}
use Rattle.netset_commands.proofs.commands.arguments.Parts.add.Goals as goal

pub returns-in-Any : goal.returns-in-Any
returns-in-Any g c = rw c.in-Any.is c.add_any.ensures

pub returns-in_ok-push-in-Value : goal.returns-in_ok-push-in-Value
returns-in_ok-push-in-Value g c = rw c.in-Value.is (
  only_value c.args.word.now,
  refl,
  value_pushed c.args.self.now.options.items c.args.self.now.values.items c.args.self.now.operands.items c.push.new.items.items c.args.word c.in_ok-push-in-Value.ensures.pushed,
)

pub returns-in_ok-push-in-Operand : goal.returns-in_ok-push-in-Operand
returns-in_ok-push-in-Operand g c = rw c.in-Operand.is (
  only_operand c.args.word.now,
  refl,
  operand_pushed c.args.self.now.options.items c.args.self.now.values.items c.args.self.now.operands.items c.push-in-Operand.new.items.items c.args.word c.in_ok-push-in-Operand.ensures.pushed,
)
