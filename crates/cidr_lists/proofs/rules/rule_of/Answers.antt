use Rattle.cidr_lists.proofs.RuleTexts.{nothing_there}
use Rattle.cidr_lists.proofs.rules.rule_of.Goals as goal

pub returns-then-is_empty : goal.returns-then-is_empty
returns-then-is_empty c = (
  c.in-Some.word.now,
  c.in-Some.rest.now,
  c.in-Some.ensures,
  ((c.in-Some-action_of.action, c.in-Some-action_of.ensures), nothing_there c.in-Some.rest.now c.is_empty.result c.is_empty.ensures c.if-is_empty.true),
)
