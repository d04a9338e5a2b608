-- A walk ascends.
use Rattle.cidr.proofs.WalkOrder.{walk_ascends-law}
use Rattle.cidr.proofs.laws.walks.walk_ascends.Goals as goal

pub returns : goal.returns
returns c = walk_ascends-law
