use Rattle.cidr_lists.proofs.ReadBack.{merged_again}
use Rattle.cidr_lists.proofs.laws.merging_again_changes_nothing.Goals as goal

pub returns : goal.returns
returns c = merged_again
