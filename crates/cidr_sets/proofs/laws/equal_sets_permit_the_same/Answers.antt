use Rattle.cidr_sets.proofs.FirstRules.{same_permitted}
use Rattle.cidr_sets.proofs.laws.equal_sets_permit_the_same.Goals as goal

pub returns : goal.returns
returns c = same_permitted
