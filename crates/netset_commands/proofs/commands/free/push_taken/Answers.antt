use Rattle.std.proofs.lemmas.Result.{err_from_is_err_and}
use Rattle.cidr_lists.specs.Formats.{before_next, layout_in}
use Rattle.netset_commands.specs.Free.{pair_of}
use Rattle.netset_commands.proofs.Taken.{not_done, taking_done, taking_ended, taking_lost, taking_on, taking_started}
use Rattle.netset_commands.proofs.commands.free.push_taken.Goals as goal

pub loop-subnet-init : goal.loop-subnet-init
loop-subnet-init g c =
    taking_started (before_next (layout_in c.args.layout)) (pair_of c.args.first) c.args.most c.args.subnets (g.S.Sink.state c.args.out.now) c.args.block.now

pub loop-subnet-preserved : goal.loop-subnet-preserved
loop-subnet-preserved g c =
    taking_on (before_next (layout_in c.args.layout)) (pair_of c.args.first) c.args.most c.loop-subnet.left c.one_less-left.result (pair_of c.loop-subnet.last)
    c.args.subnets c.loop-subnet.subnets c.next.new.self (g.S.Sink.state c.args.out.now) (g.S.Sink.state c.loop-subnet.out) (g.S.Sink.state c.push_next.new.out)
    c.args.block.now c.loop-subnet.block c.push_next.new.block _ c.in-Some.ensures.steps
    (not_done c.is_done.result c.loop-subnet.left c.is_done.ensures c.if-is_done.false) c.one_less-left.ensures c.loop-subnet.invariant c.in_ok-push_next.ensures

pub returns-then-is_done : goal.returns-then-is_done
returns-then-is_done g c =
    taking_done (before_next (layout_in c.args.layout)) (pair_of c.args.first) c.args.most c.loop-subnet.left (pair_of c.loop-subnet.last) c.args.subnets
    c.loop-subnet.subnets (g.S.Sink.state c.args.out.now) (g.S.Sink.state c.loop-subnet.out) c.args.block.now c.loop-subnet.block
    (c.is_done.ensures.0 c.if-is_done.true) c.loop-subnet.invariant

pub returns-in_err-push_next : goal.returns-in_err-push_next
returns-in_err-push_next g c =
    let (y, is, same) = err_from_is_err_and c.from_residual.result c.from_residual.ensures.1 in
    rw is (taking_lost (before_next (layout_in c.args.layout)) (pair_of c.args.first) c.args.most c.loop-subnet.left (pair_of c.loop-subnet.last) c.args.subnets
    c.loop-subnet.subnets c.next.new.self (g.S.Sink.state c.args.out.now) (g.S.Sink.state c.loop-subnet.out) (g.S.Sink.state c.push_next.new.out)
    c.args.block.now c.loop-subnet.block c.push_next.new.block _ y c.in-Some.ensures.steps
    (not_done c.is_done.result c.loop-subnet.left c.is_done.ensures c.if-is_done.false) c.loop-subnet.invariant c.in_err-push_next.ensures)

pub returns : goal.returns
returns g c =
    taking_ended (before_next (layout_in c.args.layout)) (pair_of c.args.first) c.args.most c.loop-subnet.left (pair_of c.loop-subnet.last) c.args.subnets
    c.loop-subnet.subnets (g.S.Sink.state c.args.out.now) (g.S.Sink.state c.loop-subnet.out) c.args.block.now c.loop-subnet.block
    c.in_default.ensures.steps.0 c.loop-subnet.invariant
