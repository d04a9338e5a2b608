use Rattle.cidr_lists.proofs.SetSteps.{within_is}
use Rattle.cidr_lists.proofs.sets.Sets.contains.Goals as goal

pub returns-in-V4 : goal.returns-in-V4
returns-in-V4 c = rw c.in-V4.is (within_is c.args.self.now.v4 c.in-V4.network c.contains.result c.contains.ensures.addresses)

pub returns-in-V6 : goal.returns-in-V6
returns-in-V6 c = rw c.in-V6.is (within_is c.args.self.now.v6 c.in-V6.network c.contains-in-V6.result c.contains-in-V6.ensures.addresses)
