-- 2^128 in decimal.
use Rattle.std.specs.Fmt.{digits}
use Rattle.cidr_io.proofs.decimal.count_text.Goals as goal

pub returns-in-None : goal.returns-in-None
unfolding digits
returns-in-None c = rw (c.in-None.is, c.push_str.ensures.bytes, c.new-text.ensures)
