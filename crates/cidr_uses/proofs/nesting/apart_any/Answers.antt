-- Neither in the other, and so disjoint.
use Rattle.cidr.specs.either.IpNetwork.{any_bits}
use Rattle.cidr_uses.proofs.nesting.apart_any.Goals as goal

pub returns-clause-apart : goal.returns-clause-apart
returns-clause-apart c = λ f none. c.networks_are_nested_or_apart.ensures (any_bits c.args.a.now) (any_bits c.args.b.now)
    (λ h. let t = c.contains_cidr.ensures.begins.1 h in absurd (cc)) none
