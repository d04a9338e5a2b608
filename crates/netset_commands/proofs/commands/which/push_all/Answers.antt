use Rattle.std.proofs.lemmas.Result.{err_from_is_err_and}
use Rattle.cidr_io.proofs.Collected.{all_collected, none_collected, part_collected, part_lost}
use Rattle.netset_commands.specs.Which.{which_line}
use Rattle.netset_commands.proofs.commands.which.push_all.Goals as goal

pub loop-entry-init : goal.loop-entry-init
loop-entry-init g c = none_collected (g.S.Sink.state c.args.out.now) c.args.block.now

pub loop-entry-preserved : goal.loop-entry-preserved
loop-entry-preserved g c =
    part_collected (which_line c.args.address.now) (g.S.Sink.state c.args.out.now) (g.S.Sink.state c.loop-entry.out) (g.S.Sink.state c.push_which.new.out) c.args.block.now
    c.loop-entry.block c.push_which.new.block c.args.entries.now c.loop-entry.entry-index c.entry-item.result c.loop-entry-test.true c.loop-entry.invariant
    (rw c.entry-item.is at c.in_ok-push_which.ensures)

pub returns-in_err-push_which : goal.returns-in_err-push_which
returns-in_err-push_which g c =
    let (y, is, same) = err_from_is_err_and c.from_residual.result c.from_residual.ensures.1 in
    part_lost (which_line c.args.address.now) (g.S.Sink.state c.args.out.now) (g.S.Sink.state c.loop-entry.out) (g.S.Sink.state c.push_which.new.out) c.args.block.now
    c.loop-entry.block c.push_which.new.block c.args.entries.now c.loop-entry.entry-index c.entry-item.result c.from_residual.result y is c.loop-entry-test.true
    c.loop-entry.invariant (rw c.entry-item.is at c.in_err-push_which.ensures)

pub returns : goal.returns
returns g c =
    all_collected (which_line c.args.address.now) (g.S.Sink.state c.args.out.now) (g.S.Sink.state c.loop-entry.out) c.args.block.now c.loop-entry.block c.args.entries.now
    c.loop-entry.entry-index c.loop-entry-test.false c.loop-entry.invariant
