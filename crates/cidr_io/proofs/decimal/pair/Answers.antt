use Rattle.std.proofs.Common.{◌+◌, ◌*◌, arith}
use Rattle.cidr_io.proofs.Digits.{IsAscii-pairs}
use Rattle.cidr_io.proofs.decimal.pair.Goals as goal

pub range-requires-clause-start_boundary : goal.range-requires-clause-start_boundary
range-requires-clause-start_boundary c =
    λ _. (omega arith, λ a b. absurd (omega (arith, IsAscii-pairs (c.from-start.result * 2))))

pub range-requires-clause-end_boundary : goal.range-requires-clause-end_boundary
range-requires-clause-end_boundary c =
    (omega arith, λ a b. absurd (omega (arith, IsAscii-pairs (c.from-start.result * 2 + 2))))
