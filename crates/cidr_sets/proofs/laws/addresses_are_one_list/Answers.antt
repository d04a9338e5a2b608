use Rattle.cidr_sets.proofs.AddressLaws.{one_list_of}
use Rattle.cidr_sets.proofs.laws.addresses_are_one_list.Goals as goal

pub returns : goal.returns
returns c = one_list_of
