use Rattle.std.proofs.Common.{refl}
use Rattle.cidr.specs.texts.PrintedAddress.{address_text}
use Rattle.cidr.specs.declared.family.Family.TheVariants.{Ipv4, Ipv6}
use Rattle.cidr_lists.specs.Sets.{range_line}
use Rattle.cidr_lists.proofs.PrintedTexts.{last_behind, next_behind, ranges_printed}
use Rattle.cidr_lists.proofs.sets.Sets.to_range_lines.Goals as goal

pub loop-range-init : goal.loop-range-init
loop-range-init c = refl

pub loop-range-preserved : goal.loop-range-preserved
loop-range-preserved c =
    next_behind (range_line (address_text Ipv4)) c.new-text.result.items c.ranges-v4.result c.loop-range.text.items c.push_range.new.text.items
    c.loop-range.v4 c.next.new.self _ c.loop-range.invariant c.in-Some.ensures.steps c.in_ok-push_range.ensures

pub loop-range-2-init : goal.loop-range-2-init
loop-range-2-init c = refl

pub loop-range-2-preserved : goal.loop-range-2-preserved
loop-range-2-preserved c =
    next_behind (range_line (address_text Ipv6)) c.loop-range.text.items c.ranges-v6.result c.loop-range-2.text.items c.push_range-in-Some-next.new.text.items
    c.loop-range-2.v6 c.next-in-loop-range-2.new.self _ c.loop-range-2.invariant c.in-Some-next.ensures.steps c.in_ok-push_range-2.ensures

pub returns : goal.returns
returns c =
    let first =
    last_behind (range_line (address_text Ipv4)) c.new-text.result.items c.ranges-v4.result c.loop-range.text.items c.loop-range.v4
    c.loop-range.invariant c.in_default.ensures.steps.0 in
    let second =
    last_behind (range_line (address_text Ipv6)) c.loop-range.text.items c.ranges-v6.result c.loop-range-2.text.items c.loop-range-2.v6
    c.loop-range-2.invariant c.in_default-next.ensures.steps.0 in
    ranges_printed c.args.self.now c.ranges-v4.result c.ranges-v6.result c.loop-range-2.text.items c.ranges-v4.ensures.ranges c.ranges-v6.ensures.ranges
    (rw (rw c.new-text.ensures.items at first) at second)
