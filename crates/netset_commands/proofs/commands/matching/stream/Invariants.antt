use Rattle.netset_commands.specs.Gathering.{label_of}
use Rattle.netset_commands.specs.Picking.{PicksOf}
use Rattle.cidr_lists.specs.Sets.{IsInSets}
use Rattle.netset_commands.proofs.Matched.{Streamed}
use Rattle.netset_commands.proofs.commands.matching.stream.Given as goal

abbrev pub invariant-loop-number : goal.invariant-loop-number
invariant-loop-number g l =
    Streamed l.matcher.picking.headed (PicksOf l.matcher.picking (IsInSets l.matcher.sets.now)) (label_of l.matcher.name) l.matcher.picking.written l.fn.reader.left l.reader.left
    (g.S.Sink.state l.fn.out) (g.S.Sink.state l.out) l.number l.gathered.count l.gathered.block l.long
