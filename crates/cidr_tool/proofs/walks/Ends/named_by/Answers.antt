use Rattle.std.proofs.Common.{arith}
use Rattle.cidr_tool.proofs.Letters.{other_letter}
use Rattle.cidr_tool.proofs.walks.Ends.named_by.Goals as goal

pub returns-in_err-places : goal.returns-in_err-places
returns-in_err-places c =
    rw c.from_residual.ensures (other_letter c.args.text.now c.loop-i.i 0 (omega arith) (rw c.as_bytes-letters.ensures.value at c.in_err-places.ensures))
