use Rattle.netset_commands.proofs.Operands.{reads_not, reads_so}
use Rattle.netset_commands.proofs.commands.is_network.Goals as goal

pub returns-in-Ok : goal.returns-in-Ok
returns-in-Ok c = reads_so c.args.operand.now c.in-Ok.field-0 c.in-Ok.ensures.value

pub returns-in-Err : goal.returns-in-Err
returns-in-Err c = reads_not c.args.operand.now c.in-Err.ensures.value.1
