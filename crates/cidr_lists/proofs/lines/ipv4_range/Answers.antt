use Rattle.std.proofs.Common.{refl, sym, ◌∙◌}
use Rattle.cidr.specs.declared.addr.ip.IpAddr.TheVariants.{V4}
use Rattle.cidr_lists.proofs.Contents.{above, not_above}
use Rattle.cidr_lists.proofs.lines.ipv4_range.Goals as goal

pub returns-then-is_gt : goal.returns-then-is_gt
returns-then-is_gt c = λ bits ends.
    (V4 c.args.first, V4 c.args.last, ends, refl, sym c.cmp.ensures ∙ above c.cmp.result c.is_gt.result c.is_gt.ensures c.if-is_gt.true, c.excerpt.ensures.text)

pub returns : goal.returns
returns c = λ bits ends. (ends, rw (← c.cmp.ensures) (not_above c.cmp.result c.is_gt.result c.is_gt.ensures c.if-is_gt.false))
