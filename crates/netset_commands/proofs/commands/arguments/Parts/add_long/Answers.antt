use Rattle.std.proofs.Common.{[], ◌∷◌, ◌∙◌, ap₂, List, ℕ, Ok, sym}
use Rattle.netset_commands.specs.Arguments.{named_value, only_options, only_value}
use Rattle.netset_commands.specs.Command.{given_parts}
use Rattle.netset_commands.specs.declared.commands.arguments.Next.TheVariants.{Any}
use Rattle.netset_commands.proofs.Parts.{added_as, before_value, long_option, option_pushed, pair_pushed, value_pushed, with_value, without_value}
use Rattle.netset_commands.proofs.commands.arguments.Parts.add_long.Goals as goal

pub returns-then-has : goal.returns-then-has
returns-then-has g c = (
  only_options (c.args.word.now ∷ []),
  long_option c.args.command c.args.word.now (sym (rw c.options_of.ensures at c.has.ensures) ∙ c.if-has.true),
  option_pushed c.args.self.now.options.items c.args.self.now.values.items c.args.self.now.operands.items c.push.new.items.items c.args.word c.in_ok-push.ensures.pushed,
)

pub returns-then-takes_value : goal.returns-then-takes_value
returns-then-takes_value g c = (
  only_value c.args.word.now,
  before_value c.args.command c.args.word.now (sym (rw c.options_of.ensures at c.has.ensures) ∙ c.if-has.false) (sym c.takes_value.ensures ∙ c.if-takes_value.true),
  value_pushed c.args.self.now.options.items c.args.self.now.values.items c.args.self.now.operands.items c.push-then-takes_value.new.items.items c.args.word c.in_ok-push-2.ensures.pushed,
)

pub returns-in_ok-push-in-Some-2 : goal.returns-in_ok-push-in-Some-2
returns-in_ok-push-in-Some-2 g c = (
  named_value c.in-Some.name.now c.in-Some.value.now,
  with_value c.args.command c.args.word.now (sym (rw c.options_of.ensures at c.has.ensures) ∙ c.if-has.false) (sym c.takes_value.ensures ∙ c.if-takes_value.false) c.in-Some.ensures.0
      ∙ ap₂ (λ (a b : List ℕ). Ok (named_value a b, Any)) (sym c.in-Some.ensures.1) (sym c.in-Some.ensures.2),
  pair_pushed c.args.self.now.options.items c.args.self.now.values.items c.push-in-Some.new.items.items c.push-in-Some-2.new.items.items
      c.args.self.now.operands.items c.in-Some.name c.in-Some.value c.in_ok-push-in-Some.ensures.pushed c.in_ok-push-in-Some-2.ensures.pushed,
)

pub returns-in-None : goal.returns-in-None
returns-in-None g c =
    added_as _ _ (given_parts c.args.self.now) (given_parts c.add_topic.new.self) (g.M.Memory.refused c.add_topic.new.memory) c.add_topic.result
    (without_value c.args.command c.args.word.now (sym (rw c.options_of.ensures at c.has.ensures) ∙ c.if-has.false) (sym c.takes_value.ensures ∙ c.if-takes_value.false)
    (c.in-None.ensures (sym c.takes_value.ensures ∙ c.if-takes_value.false)))
    c.add_topic.ensures
