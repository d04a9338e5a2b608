use Rattle.std.proofs.lemmas.Result.{err_from_is_err_and}
use Rattle.cidr_io.specs.Shown.{part_text}
use Rattle.cidr_io.proofs.Collected.{part_collected, part_lost, all_collected}
use Rattle.cidr_io.proofs.block.Block.push_message.Goals as goal

pub returns-in_err-push_part : goal.returns-in_err-push_part
returns-in_err-push_part g c =
    let (y, is, same) = err_from_is_err_and c.from_residual-in_err-push_part.result c.from_residual-in_err-push_part.ensures.1 in
    part_lost part_text (g.S.Sink.state c.args.out.now) (g.S.Sink.state c.loop-part.out) (g.S.Sink.state c.push_part.new.out)
    c.args.self.now c.loop-part.self c.push_part.new.self c.args.parts.now c.loop-part.part-index _ c.from_residual-in_err-push_part.result y is
    c.loop-part-test.true c.loop-part.invariant c.in_err-push_part.ensures

pub loop-part-preserved : goal.loop-part-preserved
loop-part-preserved g c =
    part_collected part_text (g.S.Sink.state c.args.out.now) (g.S.Sink.state c.loop-part.out) (g.S.Sink.state c.push_part.new.out)
    c.args.self.now c.loop-part.self c.push_part.new.self c.args.parts.now c.loop-part.part-index _
    c.loop-part-test.true c.loop-part.invariant c.in_ok-push_part.ensures

pub returns : goal.returns
returns g c =
    all_collected part_text (g.S.Sink.state c.args.out.now) (g.S.Sink.state c.loop-part.out)
    c.args.self.now c.loop-part.self c.args.parts.now c.loop-part.part-index c.loop-part-test.false c.loop-part.invariant
