use Rattle.std.proofs.Common.{Bor, List, ℕ}
use Rattle.std.proofs.lemmas.Result.{err_from_is_err_and}
use Rattle.cidr_io.proofs.Collected.{none_collected, part_collected, part_lost, all_collected}
use Rattle.cidr_io.proofs.block.Block.push_parts.Goals as goal

pub loop-part-init : goal.loop-part-init
loop-part-init g c = none_collected (g.S.Sink.state c.args.out.now) c.args.self.now

pub returns-in_err-push : goal.returns-in_err-push
returns-in_err-push g c =
    let (y, is, same) = err_from_is_err_and c.from_residual.result c.from_residual.ensures.1 in
    part_lost (λ (part : Bor (List ℕ)). part.now) (g.S.Sink.state c.args.out.now) (g.S.Sink.state c.loop-part.out) (g.S.Sink.state c.push.new.out)
    c.args.self.now c.loop-part.self c.push.new.self c.args.parts.now c.loop-part.part-index _ c.from_residual.result y is
    c.loop-part-test.true c.loop-part.invariant c.in_err-push.ensures

pub loop-part-preserved : goal.loop-part-preserved
loop-part-preserved g c =
    part_collected (λ (part : Bor (List ℕ)). part.now) (g.S.Sink.state c.args.out.now) (g.S.Sink.state c.loop-part.out) (g.S.Sink.state c.push.new.out)
    c.args.self.now c.loop-part.self c.push.new.self c.args.parts.now c.loop-part.part-index _
    c.loop-part-test.true c.loop-part.invariant c.in_ok-push.ensures

pub returns : goal.returns
returns g c =
    all_collected (λ (part : Bor (List ℕ)). part.now) (g.S.Sink.state c.args.out.now) (g.S.Sink.state c.loop-part.out)
    c.args.self.now c.loop-part.self c.args.parts.now c.loop-part.part-index c.loop-part-test.false c.loop-part.invariant
