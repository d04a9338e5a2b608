use Rattle.netset_commands.proofs.Operands.{length_not, length_so}
use Rattle.netset_commands.proofs.commands.is_no_list.Goals as goal

pub returns-in-Zones : goal.returns-in-Zones
returns-in-Zones c = rw c.in-Zones.is c.is_network.ensures

pub returns-in-Some : goal.returns-in-Some
returns-in-Some c = rw c.in-Masks.is (length_so c.args.operand.now c.in-Some.field-0 c.in-Some.ensures)

pub returns-in-None : goal.returns-in-None
returns-in-None c = rw c.in-Masks.is (length_not c.args.operand.now c.is_network-in-None.result c.in-None.ensures c.is_network-in-None.ensures)
