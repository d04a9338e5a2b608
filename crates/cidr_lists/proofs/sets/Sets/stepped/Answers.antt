use Rattle.cidr.specs.declared.family.Family.TheVariants.{Ipv4, Ipv6}
use Rattle.cidr_lists.proofs.SetSteps.{step_plain}
use Rattle.cidr_lists.proofs.sets.Sets.stepped.Goals as goal

pub returns : goal.returns
returns c = elim [
  | Ipv4 ↦ step_plain c.args.step c.args.self.now.v4 c.args.other.now.v4 c.in_ok-stepped.field-0 c.in_ok-stepped.ensures
  | Ipv6 ↦ step_plain c.args.step c.args.self.now.v6 c.args.other.now.v6 c.in_ok-stepped-2.field-0 c.in_ok-stepped-2.ensures
]
