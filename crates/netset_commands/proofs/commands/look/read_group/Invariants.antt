use Rattle.netset_commands.proofs.Asked.{Asking}
use Rattle.netset_commands.proofs.commands.look.read_group.Given as goal

abbrev pub invariant-loop-number : goal.invariant-loop-number
invariant-loop-number g l = Asking l.place l.first l.fn.reader.left l.reader.left l.asked.items l.number
