use Rattle.std.proofs.Common.{refl}
use Rattle.std.proofs.lemmas.Result.{err_from_is_err_and}
use Rattle.cidr_lists.specs.Changes.{change_line, merged, change_layout_in}
use Rattle.cidr_lists.specs.Formats.{family_by}
use Rattle.netset_commands.proofs.WrittenLines.{walk_started, walked_on, walk_lost, walk_ended}
use Rattle.netset_commands.proofs.commands.changes.write_changes.Goals as goal

pub loop-change-init : goal.loop-change-init
loop-change-init g c =
    walk_started (change_line (family_by g.C.FamilyCidr.FAMILY g.C.BitString.bits) (change_layout_in c.args.layout)) (merged g.C.BitString.bits c.args.added.now c.args.lacking.now) (g.S.Sink.state c.args.out.now)
    c.new-block.result c.new-block.ensures

pub loop-change-preserved : goal.loop-change-preserved
loop-change-preserved g c =
    walked_on (change_line (family_by g.C.FamilyCidr.FAMILY g.C.BitString.bits) (change_layout_in c.args.layout)) (merged g.C.BitString.bits c.args.added.now c.args.lacking.now) c.loop-change.changes c.next.new.self
    (g.S.Sink.state c.args.out.now) (g.S.Sink.state c.loop-change.out) (g.S.Sink.state c.push_change.new.out) c.loop-change.block c.push_change.new.block
    (change_line (family_by g.C.FamilyCidr.FAMILY g.C.BitString.bits) (change_layout_in c.args.layout) c.in-Some.change) c.in-Some.change c.in-Some.ensures.steps refl c.loop-change.invariant c.in_ok-push_change.ensures

pub returns-in_err-push_change : goal.returns-in_err-push_change
returns-in_err-push_change g c =
    let (y, is, same) = err_from_is_err_and c.from_residual.result c.from_residual.ensures.1 in
    walk_lost (change_line (family_by g.C.FamilyCidr.FAMILY g.C.BitString.bits) (change_layout_in c.args.layout)) (merged g.C.BitString.bits c.args.added.now c.args.lacking.now) c.loop-change.changes c.next.new.self
    (g.S.Sink.state c.args.out.now) (g.S.Sink.state c.loop-change.out) (g.S.Sink.state c.push_change.new.out) c.loop-change.block
    (change_line (family_by g.C.FamilyCidr.FAMILY g.C.BitString.bits) (change_layout_in c.args.layout) c.in-Some.change) c.in-Some.change c.from_residual.result y is c.in-Some.ensures.steps refl
    c.loop-change.invariant c.in_err-push_change.ensures

pub returns : goal.returns
returns g c =
    walk_ended (change_line (family_by g.C.FamilyCidr.FAMILY g.C.BitString.bits) (change_layout_in c.args.layout)) (merged g.C.BitString.bits c.args.added.now c.args.lacking.now) c.loop-change.changes (g.S.Sink.state c.args.out.now)
    (g.S.Sink.state c.loop-change.out) (g.S.Sink.state c.write.new.out) c.loop-change.block c.write.result c.in_default.ensures.steps.0 c.loop-change.invariant
    c.write.ensures.writes
