use Rattle.cidr_sets.proofs.Addresses.{covers_from_full, full_from_covers}
use Rattle.cidr_sets.proofs.laws.full_networks_lie_in_one.Goals as goal

pub returns : goal.returns
returns c w s p h short = (covers_from_full w s p h short, full_from_covers w s p)
