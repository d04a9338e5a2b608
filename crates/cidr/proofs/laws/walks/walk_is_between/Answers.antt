-- A walk has exactly what lies between its ends.
use Rattle.cidr.proofs.WalkOrder.{walk_between-exact}
use Rattle.cidr.proofs.laws.walks.walk_is_between.Goals as goal

pub returns : goal.returns
returns c = walk_between-exact
