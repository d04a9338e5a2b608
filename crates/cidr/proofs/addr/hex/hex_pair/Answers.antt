-- The two digits stand in the table.
use Rattle.std.proofs.Common.{◌≡◌, ◌+◌, ◌-◌, ◌*◌, take, drop, ◌∙◌, arith}
use Rattle.cidr.specs.declared.addr.hex.TheConstants.{PAIRS}
use Rattle.cidr.proofs.HexDigits.{pair_in_table, IsAscii-pairs}
use Rattle.cidr.proofs.addr.hex.hex_pair.Goals as goal

pub range-requires-clause-start_boundary : goal.range-requires-clause-start_boundary
range-requires-clause-start_boundary c =
    λ _. (omega arith, λ a b. absurd (omega (arith, IsAscii-pairs (c.from-start.result * 2))))

pub range-requires-clause-end_boundary : goal.range-requires-clause-end_boundary
range-requires-clause-end_boundary c =
    (omega arith, λ a b. absurd (omega (arith, IsAscii-pairs (c.from-start.result * 2 + 2))))

pub returns-clause-value : goal.returns-clause-value
returns-clause-value c =
    let at = c.from-start.result in
    let read : c.range.result.now ≡ take (at * 2 + 2 - at * 2) (drop (at * 2) PAIRS.now) = c.range.ensures.value in
    read ∙ pair_in_table c.args.byte at c.from-start.ensures (omega arith)
