use Rattle.cidr_sets.proofs.FirstRules.{earlier_decides, some_decides}
use Rattle.cidr_sets.proofs.laws.shadowed_rules_are_decided_earlier.Goals as goal

pub returns-clause-some : goal.returns-clause-some
returns-clause-some c ps i p a there = some_decides ps i p there a

pub returns-clause-earlier : goal.returns-clause-earlier
returns-clause-earlier c w ps i j p there = earlier_decides ps i p there w j
