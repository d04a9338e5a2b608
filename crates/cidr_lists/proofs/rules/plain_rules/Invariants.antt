use Rattle.std.proofs.Common.{◌≡◌, map, take}
use Rattle.cidr_lists.specs.Rules.{plain_rule}
use Rattle.cidr_lists.proofs.rules.plain_rules.Given as goal

abbrev pub invariant-loop-rule : goal.invariant-loop-rule
invariant-loop-rule g l = l.out.items ≡ map plain_rule (take l.rule-index l.rules)
