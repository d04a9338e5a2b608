use Rattle.cidr.specs.declared.family.Family.TheVariants.{Ipv4, Ipv6}
use Rattle.cidr_lists.proofs.RuleTexts.{permitting_plain}
use Rattle.cidr_lists.proofs.rules.Rules.permitted.Goals as goal

pub returns : goal.returns
returns c = elim [
  | Ipv4 ↦ permitting_plain c.args.self.now.v4.items c.in_ok-permitted_by.field-0 (rw c.as_slice.ensures.value at c.in_ok-permitted_by.ensures)
  | Ipv6 ↦ permitting_plain c.args.self.now.v6.items c.in_ok-permitted_by-2.field-0 (rw c.as_slice-2.ensures.value at c.in_ok-permitted_by-2.ensures)
]
