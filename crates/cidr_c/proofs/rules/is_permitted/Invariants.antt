use Rattle.cidr.specs.either.IpNetwork.{any_bits}
use Rattle.cidr_sets.proofs.FirstRules.{AreLeftToDecide}
use Rattle.cidr_c.specs.model.Rules.{action_in}
use Rattle.cidr_c.specs.model.Values.{network_in}
use Rattle.cidr_c.specs.declared.rules.CRule.{CRule}
use Rattle.cidr_c.proofs.rules.is_permitted.Given as goal

abbrev pub invariant-loop-rule : goal.invariant-loop-rule
invariant-loop-rule l = AreLeftToDecide (λ (r : CRule). any_bits (network_in r.network)) action_in l.rules (any_bits l.address) l.rule-index
