-- What is returned comes from the ends of what is left.
use Rattle.cidr.proofs.BothEnds.{gives_inward}
use Rattle.cidr.proofs.laws.walks.calls_return_from_the_ends.Goals as goal

pub returns : goal.returns
returns c items ends = gives_inward items ends
