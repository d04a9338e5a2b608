use Rattle.std.proofs.Common.{inr}
use Rattle.cidr_lists.proofs.prefix_lists.network_row.Goals as goal

pub returns-in-Err-lengths_of : goal.returns-in-Err-lengths_of
returns-in-Err-lengths_of c = (
  c.parts_of.result.0.now,
  c.parts_of.result.1.now,
  c.parts_of.ensures,
  inr (inr (c.in-Ok.network, c.in-Ok.ensures.0, c.in-Ok.ensures.1, c.in-Err-lengths_of.ensures)),
)
