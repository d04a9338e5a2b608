use Rattle.netset_commands.proofs.Kept.{Keeping}
use Rattle.netset_commands.proofs.commands.kept.tell_lines.Given as goal

abbrev pub invariant-loop-number : goal.invariant-loop-number
invariant-loop-number g l =
    Keeping l.telling l.place (g.T.LookUps.rows l.table) l.fn.reader.left l.reader.left (g.S.Sink.state l.fn.out) (g.S.Sink.state l.out) l.number l.block l.found
