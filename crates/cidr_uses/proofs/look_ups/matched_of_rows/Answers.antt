-- The table of the last rows, and the row that is found in it.
use Rattle.cidr_uses.proofs.look_ups.matched_of_rows.Goals as goal

pub returns : goal.returns
returns g c = (c.from_rows.result.rows, c.from_rows.ensures.rows, rw c.copied.ensures c.lookup-2.ensures.row)
