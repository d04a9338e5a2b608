use Rattle.cidr_lists.proofs.WrittenRows.{rows_are_read}
use Rattle.cidr_lists.proofs.laws.printed_rows_are_read.Goals as goal

pub returns : goal.returns
returns c = λ family name rows is are. rows_are_read family name is rows are
