use Rattle.cidr_lists.specs.Changes.{change_line, merged, change_layout_in}
use Rattle.cidr_lists.specs.Formats.{family_by}
use Rattle.netset_commands.proofs.WrittenLines.{Walked}
use Rattle.netset_commands.proofs.commands.changes.write_changes.Given as goal

abbrev pub invariant-loop-change : goal.invariant-loop-change
invariant-loop-change g l =
    Walked (change_line (family_by g.C.FamilyCidr.FAMILY g.C.BitString.bits) (change_layout_in l.fn.layout)) (merged g.C.BitString.bits l.fn.added l.fn.lacking) l.changes
    (g.S.Sink.state l.fn.out) (g.S.Sink.state l.out) l.block
