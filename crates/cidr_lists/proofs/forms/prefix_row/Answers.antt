use Rattle.std.proofs.Common.{inr}
use Rattle.cidr_lists.proofs.forms.prefix_row.Goals as goal

pub returns-in-Err-network_with : goal.returns-in-Err-network_with
returns-in-Err-network_with c =
    inr (c.in-Ok.address, c.parts_of.result.0.now, c.parts_of.result.1.now, c.in-Ok.ensures, c.parts_of.ensures, c.in-Err-network_with.ensures)
