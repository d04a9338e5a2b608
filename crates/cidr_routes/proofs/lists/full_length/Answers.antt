use Rattle.std.proofs.Common.{◌≤◌, arith}
use Rattle.cidr.specs.model.Network.{width_of}
use Rattle.cidr.specs.declared.family.Family.{Family}
use Rattle.cidr.specs.declared.family.Family.TheVariants.{Ipv4, Ipv6}
use Rattle.cidr_routes.proofs.lists.full_length.Goals as goal

fits : (family : Family) → width_of family ≤ 128
fits Ipv4 = omega arith
fits Ipv6 = omega arith

pub returns-clause-fits : goal.returns-clause-fits
returns-clause-fits g c = omega (arith, c.len.ensures, fits c.FAMILY.result)
