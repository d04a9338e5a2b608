use Rattle.std.proofs.Common.{ap₂, sym, Bool, List}
use Rattle.std.proofs.lemmas.Result.{err_from_is_err_and}
use Rattle.cidr.specs.texts.PrintedAddress.{address_text}
use Rattle.cidr_lists.specs.Sets.{range_line}
use Rattle.netset_commands.proofs.WrittenLines.{walk_started, walked_on, walk_lost, walk_ended}
use Rattle.netset_commands.proofs.output.ranges.write_each.Goals as goal

pub loop-range-init : goal.loop-range-init
loop-range-init g c = walk_started (range_line (address_text g.C.FamilyCidr.FAMILY)) c.args.ranges (g.S.Sink.state c.args.out.now) c.new-block.result c.new-block.ensures

pub loop-range-preserved : goal.loop-range-preserved
loop-range-preserved g c =
    walked_on (range_line (address_text g.C.FamilyCidr.FAMILY)) c.args.ranges c.loop-range.ranges c.next.new.self (g.S.Sink.state c.args.out.now)
    (g.S.Sink.state c.loop-range.out) (g.S.Sink.state c.push_range.new.out) c.loop-range.block c.push_range.new.block _ _ c.in-Some.ensures.steps
    (ap₂ (λ (a b : List Bool). range_line (address_text g.C.FamilyCidr.FAMILY) (a, b)) (sym (c.requires c.in-Some.range.first)) (sym (c.requires c.in-Some.range.last)))
    c.loop-range.invariant c.in_ok-push_range.ensures

pub returns-in_err-push_range : goal.returns-in_err-push_range
returns-in_err-push_range g c =
    let (y, is, same) = err_from_is_err_and c.from_residual.result c.from_residual.ensures.1 in
    walk_lost (range_line (address_text g.C.FamilyCidr.FAMILY)) c.args.ranges c.loop-range.ranges c.next.new.self (g.S.Sink.state c.args.out.now)
    (g.S.Sink.state c.loop-range.out) (g.S.Sink.state c.push_range.new.out) c.loop-range.block _ _ c.from_residual.result y is c.in-Some.ensures.steps
    (ap₂ (λ (a b : List Bool). range_line (address_text g.C.FamilyCidr.FAMILY) (a, b)) (sym (c.requires c.in-Some.range.first)) (sym (c.requires c.in-Some.range.last)))
    c.loop-range.invariant c.in_err-push_range.ensures

pub returns : goal.returns
returns g c =
    walk_ended (range_line (address_text g.C.FamilyCidr.FAMILY)) c.args.ranges c.loop-range.ranges (g.S.Sink.state c.args.out.now) (g.S.Sink.state c.loop-range.out)
    (g.S.Sink.state c.write.new.out) c.loop-range.block c.write.result c.in_default.ensures.steps.0 c.loop-range.invariant c.write.ensures.writes
