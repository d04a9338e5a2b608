use Rattle.cidr_sets.proofs.Addresses.{none_reduced}
use Rattle.cidr_sets.proofs.set.NetworkSet.new.Goals as goal

pub invariant_of-result : goal.invariant_of-result
invariant_of-result g c = rw c.new.ensures.items (none_reduced 129)
