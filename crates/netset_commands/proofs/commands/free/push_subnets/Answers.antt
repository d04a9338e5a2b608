use Rattle.cidr_lists.specs.Formats.{before_next, layout_in}
use Rattle.netset_commands.proofs.Taken.{takes_inside, takes_outside}
use Rattle.netset_commands.proofs.commands.free.push_subnets.Goals as goal

pub returns-in-Some : goal.returns-in-Some
returns-in-Some g c =
    takes_inside (before_next (layout_in c.args.layout)) c.args.most c.args.first c.args.len c.args.network.now c.in-Some.subnets (g.S.Sink.state c.args.out.now)
    (g.S.Sink.state c.push_taken.new.out) c.args.block.now c.push_taken.new.block c.push_taken.result c.in-Some.ensures.value c.in-Some.ensures.within
    c.push_taken.ensures

pub returns-in-None : goal.returns-in-None
returns-in-None g c =
    takes_outside (before_next (layout_in c.args.layout)) c.args.most c.args.first c.args.len c.args.network.now (g.S.Sink.state c.args.out.now) c.args.block.now
    c.in-None.ensures.value
