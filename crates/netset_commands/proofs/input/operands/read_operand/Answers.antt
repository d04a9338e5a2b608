use Rattle.std.proofs.Common.{sym}
use Rattle.netset_commands.proofs.Operands.{network_read}
use Rattle.netset_commands.proofs.input.operands.read_operand.Goals as goal

pub returns-in_ok-sets-in-Ok-clause-reads : goal.returns-in_ok-sets-in-Ok-clause-reads
returns-in_ok-sets-in-Ok-clause-reads g c =
    network_read (g.F.Sources.contents c.args.sources.now) c.args.operand.now c.in-Ok.network c.in_ok-sets-in-Ok.sets c.in-Ok.ensures.value
    (rw (sym c.in_ok-sets-in-Ok.ensures.made) at c.of_network-sets.ensures)
