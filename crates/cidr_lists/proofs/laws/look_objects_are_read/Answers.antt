use Rattle.cidr_lists.proofs.LookObjects.{looks_read}
use Rattle.cidr_lists.proofs.laws.look_objects_are_read.Goals as goal

pub returns : goal.returns
returns c = looks_read
