use Rattle.std.proofs.Common.{inr}
use Rattle.cidr_tool.specs.Answer.{Compare, Walk, Bytes, Loose}
use Rattle.cidr_tool.proofs.run.run.Goals as goal

pub returns-in-Compare : goal.returns-in-Compare
returns-in-Compare g c = inr (Compare c.in-Compare.left.now c.in-Compare.right.now, rw c.in-Compare.is at c.in-Some.ensures, c.compare.ensures)

pub returns-in-Walk : goal.returns-in-Walk
returns-in-Walk g c = inr (Walk c.in-Walk.net.now c.in-Walk.ends, rw c.in-Walk.is at c.in-Some.ensures, c.walk.ensures)

pub returns-in-Bytes : goal.returns-in-Bytes
returns-in-Bytes g c = inr (Bytes c.in-Bytes.net.now, rw c.in-Bytes.is at c.in-Some.ensures, c.bytes.ensures)

pub returns-in-Loose : goal.returns-in-Loose
returns-in-Loose g c = inr (Loose c.in-Loose.text.now, rw c.in-Loose.is at c.in-Some.ensures, c.loose.ensures)
