use Rattle.std.proofs.Common.{Bor, List, ℕ}
use Rattle.std.proofs.lemmas.Result.{err_from_is_err_and}
use Rattle.cidr_io.proofs.Collected.{none_collected, part_collected, part_lost, all_collected}
use Rattle.netset_commands.proofs.output.report.push_texts.Goals as goal

pub loop-text-init : goal.loop-text-init
loop-text-init g c = none_collected (g.S.Sink.state c.args.out.now) c.args.block.now

pub returns-in_err-push : goal.returns-in_err-push
returns-in_err-push g c =
    let (y, is, same) = err_from_is_err_and c.from_residual.result c.from_residual.ensures.1 in
    part_lost (λ (text : Bor (List ℕ)). text.now) (g.S.Sink.state c.args.out.now) (g.S.Sink.state c.loop-text.out) (g.S.Sink.state c.push.new.out)
    c.args.block.now c.loop-text.block c.push.new.self c.args.texts.now c.loop-text.text-index _ c.from_residual.result y is
    c.loop-text-test.true c.loop-text.invariant (rw c.as_bytes.ensures.value at c.in_err-push.ensures)

pub loop-text-preserved : goal.loop-text-preserved
loop-text-preserved g c =
    part_collected (λ (text : Bor (List ℕ)). text.now) (g.S.Sink.state c.args.out.now) (g.S.Sink.state c.loop-text.out) (g.S.Sink.state c.push.new.out)
    c.args.block.now c.loop-text.block c.push.new.self c.args.texts.now c.loop-text.text-index _
    c.loop-text-test.true c.loop-text.invariant (rw c.as_bytes.ensures.value at c.in_ok-push.ensures)

pub returns : goal.returns
returns g c =
    all_collected (λ (text : Bor (List ℕ)). text.now) (g.S.Sink.state c.args.out.now) (g.S.Sink.state c.loop-text.out)
    c.args.block.now c.loop-text.block c.args.texts.now c.loop-text.text-index c.loop-text-test.false c.loop-text.invariant
