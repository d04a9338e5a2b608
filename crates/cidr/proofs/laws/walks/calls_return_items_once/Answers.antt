-- No item is returned twice.
use Rattle.cidr.proofs.BothEnds.{gives_once}
use Rattle.cidr.proofs.laws.walks.calls_return_items_once.Goals as goal

pub returns : goal.returns
returns c = gives_once
