use Rattle.std.proofs.Common.{length}
use Rattle.cidr_lists.proofs.RuleTexts.{RulesUpTo}
use Rattle.cidr_lists.proofs.rules.Rules.of_text.Given as goal

abbrev pub invariant-loop-rules : goal.invariant-loop-rules
invariant-loop-rules l = RulesUpTo l.host_bits l.text l.rest l.number l.rules

abbrev pub decreases-loop-rules : goal.decreases-loop-rules
decreases-loop-rules l = length l.rest
