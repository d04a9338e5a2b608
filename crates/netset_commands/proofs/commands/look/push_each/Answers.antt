use Rattle.std.proofs.Common.{◌∙◌, inl, inr}
use Rattle.std.proofs.lemmas.Result.{err_from_is_err_and}
use Rattle.netset_commands.proofs.Looked.{each_failed, each_on, either_of}
use Rattle.netset_commands.proofs.commands.look.push_each.Goals as goal
use Rattle.netset_commands.proofs.commands.look.push_each.Goals.{then-any, else-any}

pub returns-in_err-hit : goal.returns-in_err-hit
returns-in_err-hit g c =
    let (y, is, same) = err_from_is_err_and c.from_residual.result c.from_residual.ensures.1 in
    each_failed (g.T.LookUps.rows c.args.table.now) c.args.found.now c.loop-one.one-index c.one-item.result (g.S.Sink.state c.args.out.now)
    (g.S.Sink.state c.loop-one.out) (g.S.Sink.state c.push_one.new.out) c.args.block.now c.loop-one.block c.push_one.new.block c.loop-one.any c.loop-one-test.true
    c.one-item.is c.loop-one.invariant y c.in_err-hit.field-0.0 c.from_residual.result is same c.in_err-hit.ensures

pub loop-one-preserved : goal.loop-one-preserved
loop-one-preserved g c =
    each_on (g.T.LookUps.rows c.args.table.now) c.args.found.now c.loop-one.one-index c.one-item.result (g.S.Sink.state c.args.out.now)
    (g.S.Sink.state c.loop-one.out) (g.S.Sink.state c.push_one.new.out) c.args.block.now c.loop-one.block c.push_one.new.block c.loop-one.any c.loop-one-test.true
    c.one-item.is c.loop-one.invariant c.in_ok-hit.hit c.if-any.any c.in_ok-hit.ensures
    (either_of c.loop-one.any c.in_ok-hit.hit c.if-any.any
    (elim c.if-any.branch [ then-any w ↦ inl (w.if-any.true, w.any-is ∙ w.if-any.true) | else-any w ↦ inr (w.if-any.false, w.any-is) ]))
