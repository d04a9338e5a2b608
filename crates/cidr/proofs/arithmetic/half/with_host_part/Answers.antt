-- Both parts fit.
use Rattle.std.proofs.Common.{arith}
use Rattle.cidr.proofs.HalfNumbers.{parts_within}
use Rattle.cidr.proofs.arithmetic.half.with_host_part.Goals as goal

pub overflow_add-result : goal.overflow_add-result
overflow_add-result c = omega (arith, parts_within 64 c.args.len c.args.half c.args.other (omega arith))
