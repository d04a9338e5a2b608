-- The digit is the second of a pair in the table.
use Rattle.std.proofs.Common.{◌≡◌, ◌+◌, ◌-◌, ◌*◌, take, drop, ◌∙◌, arith}
use Rattle.cidr.specs.declared.addr.hex.TheConstants.{PAIRS}
use Rattle.cidr.proofs.HexDigits.{digit_in_pairs, IsAscii-pairs}
use Rattle.cidr.proofs.addr.hex.hex_digit.Goals as goal

pub range-requires-clause-start_boundary : goal.range-requires-clause-start_boundary
range-requires-clause-start_boundary c =
    λ _. (omega arith, λ a b. absurd (omega (arith, IsAscii-pairs (c.from.result * 2 + 1))))

pub range-requires-clause-end_boundary : goal.range-requires-clause-end_boundary
range-requires-clause-end_boundary c =
    (omega arith, λ a b. absurd (omega (arith, IsAscii-pairs (c.from.result * 2 + 1 + 1))))

pub returns-clause-value : goal.returns-clause-value
returns-clause-value c =
    let at = c.from.result in
    let read : c.range.result.now ≡ take (at * 2 + 1 + 1 - (at * 2 + 1)) (drop (at * 2 + 1) PAIRS.now) = c.range.ensures.value in
    read ∙ digit_in_pairs c.args.digit at c.from.ensures (omega arith)
