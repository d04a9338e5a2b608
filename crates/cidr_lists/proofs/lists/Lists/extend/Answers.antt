use Rattle.cidr.specs.declared.family.Family.TheVariants.{Ipv4, Ipv6}
use Rattle.cidr_lists.proofs.lists.Lists.extend.Goals as goal

pub returns : goal.returns
returns c = elim [
  | Ipv4 ↦ rw c.as_slice.ensures.value at c.in_ok-extend_from_slice.ensures.items
  | Ipv6 ↦ rw c.as_slice-2.ensures.value at c.in_ok-extend_from_slice-2.ensures.items
]
