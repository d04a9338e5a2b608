use Rattle.cidr_lists.proofs.PrintedLines.{printed_read}
use Rattle.cidr_lists.proofs.laws.printed_networks_are_read.Goals as goal

pub returns : goal.returns
returns c = printed_read
