use Rattle.cidr_sets.proofs.Addresses.{one_list}
use Rattle.cidr_sets.proofs.laws.equal_sets_are_equal_lists.Goals as goal

pub returns : goal.returns
returns c = one_list
