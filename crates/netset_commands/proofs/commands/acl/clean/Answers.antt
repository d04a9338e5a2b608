use Rattle.cidr_lists.proofs.LineFeeds.{not_empty}
use Rattle.cidr_lists.proofs.RuleTexts.{nothing_there}
use Rattle.netset_commands.proofs.commands.acl.clean.Goals as goal

pub returns-then-is_empty : goal.returns-then-is_empty
returns-then-is_empty c = nothing_there c.args.text.now c.is_empty.result c.is_empty.ensures c.if-is_empty.true

pub returns-else-is_empty : goal.returns-else-is_empty
returns-else-is_empty c = not_empty c.args.text.now c.is_empty.result c.is_empty.ensures c.if-is_empty.false
