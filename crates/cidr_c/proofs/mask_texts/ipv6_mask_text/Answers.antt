-- The mask stands in the table.
use Rattle.std.proofs.Common.{◌+◌, ◌-◌, ◌*◌, ◌/◌, ◌%◌, ◌∙◌, arith}
use Rattle.cidr_c.proofs.MaskTexts.{IsAscii-masks, in_masks, no_mask}
use Rattle.cidr_c.proofs.mask_texts.ipv6_mask_text.Goals as goal

pub returns-then-len-eq0 : goal.returns-then-len-eq0
returns-then-len-eq0 c = no_mask c.args.len c.from-len.result c.from-len.ensures c.if-len-eq0.true

pub range-requires-clause-start_boundary : goal.range-requires-clause-start_boundary
range-requires-clause-start_boundary c =
    let n = c.from-len.result in
    λ _. (omega arith, λ a b. absurd (omega (arith, IsAscii-masks ((n - 1) % 16 * 41 + (7 - (n - 1) / 16) * 5))))

pub range-requires-clause-end_boundary : goal.range-requires-clause-end_boundary
range-requires-clause-end_boundary c =
    let n = c.from-len.result in
    (omega arith, λ a b. absurd (omega (arith, IsAscii-masks ((n - 1) % 16 * 41 + 41 - (n - 1) / 16 / 7 * 2))))

pub returns : goal.returns
returns c = c.range.ensures.value ∙ in_masks c.args.len c.from-len.result c.from-len.ensures (omega arith) c.if-len-eq0.false c.if-groups-eq6.false
