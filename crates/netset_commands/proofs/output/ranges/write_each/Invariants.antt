use Rattle.cidr.specs.texts.PrintedAddress.{address_text}
use Rattle.cidr_lists.specs.Sets.{range_line}
use Rattle.netset_commands.proofs.WrittenLines.{Walked}
use Rattle.netset_commands.proofs.output.ranges.write_each.Given as goal

abbrev pub invariant-loop-range : goal.invariant-loop-range
invariant-loop-range g l =
    Walked (range_line (address_text g.C.FamilyCidr.FAMILY)) l.fn.ranges l.ranges (g.S.Sink.state l.fn.out) (g.S.Sink.state l.out) l.block
