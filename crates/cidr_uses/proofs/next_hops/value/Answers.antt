-- The value of the row that is looked up.
use Rattle.std.proofs.Common.{refl, Some, None}
use Rattle.cidr_uses.proofs.next_hops.value.Goals as goal

pub returns-in_err-row : goal.returns-in_err-row
returns-in_err-row g c = rw c.from_residual.ensures (None, c.in_err-row.ensures, refl)

pub returns : goal.returns
returns g c = (Some c.in_ok-row.row.now, c.in_ok-row.ensures, refl)
