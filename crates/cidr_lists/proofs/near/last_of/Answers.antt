use Rattle.std.proofs.Common.{arith}
use Rattle.std.proofs.lemmas.List.{nil_from_length}
use Rattle.cidr_lists.proofs.NumberedRows.{last_row}
use Rattle.cidr_lists.proofs.near.last_of.Goals as goal

pub returns-then-len-eq0 : goal.returns-then-len-eq0
returns-then-len-eq0 g c = nil_from_length c.args.rows.now (omega arith)

pub returns : goal.returns
returns g c = last_row c.args.rows.now c.row_at.result (omega arith) c.row_at.ensures
