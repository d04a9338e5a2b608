use Rattle.cidr_lists.proofs.StyledTexts.{changes_read}
use Rattle.cidr_lists.proofs.laws.json_changes_are_read.Goals as goal

pub returns : goal.returns
returns c = changes_read
