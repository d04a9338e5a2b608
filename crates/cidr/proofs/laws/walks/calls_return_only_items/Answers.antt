-- Only items are returned.
use Rattle.cidr.proofs.BothEnds.{gives_only}
use Rattle.cidr.proofs.laws.walks.calls_return_only_items.Goals as goal

pub returns : goal.returns
returns c = gives_only
