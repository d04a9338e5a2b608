-- Enough calls return each item.
use Rattle.cidr.proofs.BothEnds.{gives_each}
use Rattle.cidr.proofs.laws.walks.enough_calls_return_each_item.Goals as goal

pub returns : goal.returns
returns c = gives_each
