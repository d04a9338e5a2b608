-- Four digits and a colon, by where they stand.
use Rattle.cidr.proofs.GroupReading.{full_group}
use Rattle.cidr.proofs.addr.read_v6.take_full_group.Goals as goal

pub returns : goal.returns
returns c = full_group _ _ c.if-text-lt5.false c.if-text-ne58.false c.in_ok-group.ensures.0 c.in_ok-group.ensures.1
