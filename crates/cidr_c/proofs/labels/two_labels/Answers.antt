-- The two labels stand in the table.
use Rattle.std.proofs.Common.{◌≡◌, ◌+◌, ◌-◌, ◌*◌, take, drop, ◌∙◌, arith}
use Rattle.cidr_c.specs.declared.labels.TheConstants.{LABELS}
use Rattle.cidr_c.proofs.LabelPairs.{pair_in_table, IsAscii-labels}
use Rattle.cidr_c.proofs.labels.two_labels.Goals as goal

pub range-requires-clause-start_boundary : goal.range-requires-clause-start_boundary
range-requires-clause-start_boundary c =
    λ _. (omega arith, λ a b. absurd (omega (arith, IsAscii-labels (c.from-start.result * 4))))

pub range-requires-clause-end_boundary : goal.range-requires-clause-end_boundary
range-requires-clause-end_boundary c =
    (omega arith, λ a b. absurd (omega (arith, IsAscii-labels (c.from-start.result * 4 + 4))))

pub returns-clause-value : goal.returns-clause-value
returns-clause-value c =
    let at = c.from-start.result in
    let read : c.range.result.now ≡ take (at * 4 + 4 - at * 4) (drop (at * 4) LABELS.now) = c.range.ensures.value in
    read ∙ pair_in_table c.args.octet at c.from-start.ensures (omega arith)
