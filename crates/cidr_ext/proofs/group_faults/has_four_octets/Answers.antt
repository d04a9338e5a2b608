use Rattle.cidr_ext.proofs.Faults.{four_parts}
use Rattle.cidr_ext.proofs.group_faults.has_four_octets.Goals as goal

pub returns : goal.returns
returns c = four_parts 46 c.args.group.now c.dot_count.result c.dot_count.ensures
