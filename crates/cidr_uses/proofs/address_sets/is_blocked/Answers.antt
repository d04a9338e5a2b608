use Rattle.std.proofs.Common.{arith}
use Rattle.cidr_uses.proofs.address_sets.is_blocked.Goals as goal

pub returns-clause-cost : goal.returns-clause-cost
returns-clause-cost g c = omega (arith, c.contains.ensures.cost 17 (omega (arith, c.requires.few)))
