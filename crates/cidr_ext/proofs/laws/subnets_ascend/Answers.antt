use Rattle.cidr_ext.proofs.Inside.{ascending}
use Rattle.cidr_ext.proofs.laws.subnets_ascend.Goals as goal

pub returns : goal.returns
returns c = ascending
