-- The host mask stands in the table.
use Rattle.std.proofs.Common.{◌+◌, ◌-◌, ◌*◌, ◌/◌, ◌%◌, ◌∙◌, arith}
use Rattle.cidr_c.proofs.MaskTexts.{IsAscii-host_masks, in_host_masks, no_host_mask}
use Rattle.cidr_c.proofs.mask_texts.ipv6_host_mask_text.Goals as goal

pub returns-then-len-eq128 : goal.returns-then-len-eq128
returns-then-len-eq128 c = no_host_mask c.args.len c.from-len.result c.from-len.ensures c.if-len-eq128.true

pub range-requires-clause-start_boundary : goal.range-requires-clause-start_boundary
range-requires-clause-start_boundary c =
    λ _. (omega arith, λ a b. absurd (omega (arith, IsAscii-host_masks (c.from-len.result % 16 * 31))))

pub range-requires-clause-end_boundary : goal.range-requires-clause-end_boundary
range-requires-clause-end_boundary c =
    let n = c.from-len.result in
    (omega arith, λ a b. absurd (omega (arith, IsAscii-host_masks (n % 16 * 31 + 2 + (4 - n % 16 / 4) + (7 - n / 16) * 5))))

pub returns : goal.returns
returns c =
    c.range.ensures.value
    ∙ in_host_masks c.args.len c.from-len.result c.from-len.ensures (omega arith) c.if-len-eq128.false c.if-len-eq80.false (omega arith)
