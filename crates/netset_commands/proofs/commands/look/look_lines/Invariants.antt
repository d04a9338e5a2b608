use Rattle.std.proofs.Common.{◌-◌}
use Rattle.netset_commands.proofs.Looked.{Looking}
use Rattle.netset_commands.proofs.commands.look.look_lines.Given as goal

abbrev pub invariant-loop-number : goal.invariant-loop-number
invariant-loop-number g l =
    Looking l.place (g.T.LookUps.rows l.table) l.fn.reader.left l.reader.left (g.S.Sink.state l.fn.out) (g.S.Sink.state l.out)
    l.fn.block l.block l.found l.number

abbrev pub decreases-loop-number : goal.decreases-loop-number
decreases-loop-number g l = 18446744073709551615 - l.number
