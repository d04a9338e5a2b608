use Rattle.cidr_lists.proofs.StyledTexts.{plain_read}
use Rattle.cidr_lists.proofs.laws.plain_format_is_read.Goals as goal

pub returns : goal.returns
returns c = plain_read
