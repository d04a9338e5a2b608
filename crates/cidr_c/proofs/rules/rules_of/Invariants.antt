use Rattle.std.proofs.Common.{◌≡◌, map, take}
use Rattle.cidr_c.specs.model.Rules.{AreRules, rule_in}
use Rattle.cidr_c.proofs.rules.rules_of.Given as goal

abbrev pub invariant-loop-rule : goal.invariant-loop-rule
invariant-loop-rule l = AreRules (take l.rule-index l.rules) × (l.out.items ≡ map rule_in (take l.rule-index l.rules))
