use Rattle.cidr.specs.declared.family.Family.TheVariants.{Ipv4, Ipv6}
use Rattle.cidr_lists.proofs.SetSteps.{complement_plain}
use Rattle.cidr_lists.proofs.sets.Sets.complement.Goals as goal

pub returns : goal.returns
returns c = elim [
  | Ipv4 ↦ complement_plain c.null.result c.args.self.now.v4 c.in_ok-complement_in.field-0 c.null.ensures.bits c.in_ok-complement_in.ensures.set
  | Ipv6 ↦ complement_plain c.null-2.result c.args.self.now.v6 c.in_ok-complement_in-2.field-0 c.null-2.ensures.bits c.in_ok-complement_in-2.ensures.set
]
