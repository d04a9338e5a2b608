-- The row of the number in the table.
use Rattle.std.proofs.Common.{◌≡◌, ◌+◌, ◌-◌, ◌*◌, take, drop, ◌∙◌, arith}
use Rattle.cidr.specs.declared.addr.decimal.TheConstants.{NUMBERS}
use Rattle.cidr.proofs.TextTables.{IsAscii-part}
use Rattle.cidr.proofs.DecimalTable.{number_in_table, IsAscii-numbers}
use Rattle.cidr.proofs.addr.decimal.number_row.Goals as goal

pub range-requires-clause-start_boundary : goal.range-requires-clause-start_boundary
range-requires-clause-start_boundary c =
    λ _. (omega arith, λ a b. absurd (omega (arith, IsAscii-numbers (c.from-start.result * 4))))

pub range-requires-clause-end_boundary : goal.range-requires-clause-end_boundary
range-requires-clause-end_boundary c =
    (omega arith, λ a b. absurd (omega (arith, IsAscii-numbers (c.from-start.result * 4 + c.args.len))))

pub returns-clause-value : goal.returns-clause-value
returns-clause-value c =
    let at = c.from-start.result in
    let read : c.range.result.now ≡ take (at * 4 + c.args.len - at * 4) (drop (at * 4) NUMBERS.now) =
    c.range.ensures.value in
    read ∙ number_in_table c.args.n at c.args.len c.from-start.ensures (omega arith) (omega arith)

pub returns-clause-ascii : goal.returns-clause-ascii
returns-clause-ascii c =
    let at = c.from-start.result in
    let len = at * 4 + c.args.len - at * 4 in
    IsAscii-part NUMBERS.now c.range.result.now len (at * 4) IsAscii-numbers c.range.ensures.value
