use Rattle.cidr_lists.proofs.PrintedLines.{one_by}
use Rattle.cidr_lists.proofs.laws.a_string_is_one_network.Goals as goal

pub returns : goal.returns
returns c = one_by
