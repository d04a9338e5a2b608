-- The octets of a short text and zeros in the place of the missing ones.
use Rattle.std.proofs.Common.{arith}
use Rattle.cidr.proofs.ShortGrammar.{no_short, short_value, whole_fits}
use Rattle.cidr.proofs.parsers.short.read_short.Goals as goal

pub returns-in_err-parts : goal.returns-in_err-parts
returns-in_err-parts c = rw c.from_residual.ensures (no_short _ c.in_err-parts.ensures)

pub overflow_mul-octets : goal.overflow_mul-octets
overflow_mul-octets c = let fits = whole_fits _ _ _ _ c.in_ok-parts.ensures in omega arith

pub overflow_add-octets : goal.overflow_add-octets
overflow_add-octets c = let fits = whole_fits _ _ _ _ c.in_ok-parts.ensures in omega arith

pub returns : goal.returns
returns c = rw (c.holding.ensures, c.from_bits-first.ensures) (short_value _ _ _ _ c.in_ok-parts.ensures)
