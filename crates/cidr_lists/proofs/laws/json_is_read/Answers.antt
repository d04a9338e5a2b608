use Rattle.cidr_lists.proofs.StyledTexts.{json_read}
use Rattle.cidr_lists.proofs.laws.json_is_read.Goals as goal

pub returns : goal.returns
returns c = json_read
