use Rattle.cidr.specs.declared.family.Family.TheVariants.{Ipv4, Ipv6}
use Rattle.cidr_lists.proofs.sets.Sets.is_empty.Goals as goal

pub returns-then-is_empty : goal.returns-then-is_empty
returns-then-is_empty c = (
  λ yes. elim [ Ipv4 ↦ c.is_empty.ensures.0 c.if-is_empty.true | Ipv6 ↦ c.is_empty-then-is_empty.ensures.0 yes ],
  λ none. c.is_empty-then-is_empty.ensures.1 (none Ipv6),
)

pub returns-else-is_empty : goal.returns-else-is_empty
returns-else-is_empty c = (
  λ yes. elim [ Ipv4 ↦ c.is_empty.ensures.0 yes | Ipv6 ↦ cc ],
  λ none. c.is_empty.ensures.1 (none Ipv4),
)
