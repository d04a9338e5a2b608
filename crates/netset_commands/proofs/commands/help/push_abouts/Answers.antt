use Rattle.std.proofs.lemmas.Result.{err_from_is_err_and}
use Rattle.cidr_io.proofs.Collected.{none_collected, part_collected, part_lost, all_collected}
use Rattle.netset_commands.specs.Table.{about_of}
use Rattle.netset_commands.proofs.commands.help.push_abouts.Goals as goal

pub loop-command-init : goal.loop-command-init
loop-command-init g c = none_collected (g.S.Sink.state c.args.out.now) c.args.block.now

pub returns-in_err-push : goal.returns-in_err-push
returns-in_err-push g c =
    let (y, is, same) = err_from_is_err_and c.from_residual.result c.from_residual.ensures.1 in
    part_lost about_of (g.S.Sink.state c.args.out.now) (g.S.Sink.state c.loop-command.out) (g.S.Sink.state c.push.new.out)
    c.args.block.now c.loop-command.block c.push.new.self c.args.commands.now c.loop-command.command-index _ c.from_residual.result y is
    c.loop-command-test.true c.loop-command.invariant (rw (c.as_bytes.ensures.value, c.about_of.ensures) at c.in_err-push.ensures)

pub loop-command-preserved : goal.loop-command-preserved
loop-command-preserved g c =
    part_collected about_of (g.S.Sink.state c.args.out.now) (g.S.Sink.state c.loop-command.out) (g.S.Sink.state c.push.new.out)
    c.args.block.now c.loop-command.block c.push.new.self c.args.commands.now c.loop-command.command-index _
    c.loop-command-test.true c.loop-command.invariant (rw (c.as_bytes.ensures.value, c.about_of.ensures) at c.in_ok-push.ensures)

pub returns : goal.returns
returns g c =
    all_collected about_of (g.S.Sink.state c.args.out.now) (g.S.Sink.state c.loop-command.out)
    c.args.block.now c.loop-command.block c.args.commands.now c.loop-command.command-index c.loop-command-test.false c.loop-command.invariant
