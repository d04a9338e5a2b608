use Rattle.cidr_lists.specs.Formats.{before_next, layout_in}
use Rattle.netset_commands.specs.Free.{pair_of}
use Rattle.netset_commands.proofs.Taken.{Taking}
use Rattle.netset_commands.proofs.commands.free.push_taken.Given as goal

abbrev pub invariant-loop-subnet : goal.invariant-loop-subnet
invariant-loop-subnet g l =
    Taking (before_next (layout_in l.fn.layout)) (pair_of l.fn.first) l.fn.most l.left (pair_of l.last) l.fn.subnets l.subnets (g.S.Sink.state l.fn.out)
    (g.S.Sink.state l.out) l.fn.block l.block
