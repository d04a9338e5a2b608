use Rattle.std.proofs.Common.{take}
use Rattle.std.specs.List.{AllZip}
use Rattle.netset_commands.specs.LookUps.{IsFoundOf}
use Rattle.netset_commands.proofs.commands.look.find_each.Given as goal

abbrev pub invariant-loop-ask : goal.invariant-loop-ask
invariant-loop-ask g l = AllZip (IsFoundOf (g.T.LookUps.is_found l.table)) (take l.ask-index l.asked) l.found.items
