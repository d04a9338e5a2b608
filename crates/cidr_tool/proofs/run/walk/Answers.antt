use Rattle.std.proofs.Common.{refl, inr}
use Rattle.cidr_tool.specs.Walking.{walk_text}
use Rattle.cidr_tool.proofs.run.walk.Goals as goal

pub returns : goal.returns
returns g c = inr (walk_text c.in_ok-network.network c.args.ends.now, (c.in_ok-network.network, c.in_ok-network.ensures.value, refl), rw c.as_slice.ensures.value at c.write_walk.ensures)
