use Rattle.cidr_lists.proofs.ReadBack.{union_read}
use Rattle.cidr_lists.proofs.laws.printed_unions_are_read.Goals as goal

pub returns : goal.returns
returns c = union_read
