use Rattle.netset_commands.specs.Command.{request_of}
use Rattle.netset_commands.specs.Table.{texts}
use Rattle.netset_commands.proofs.Operands.{all_lists}
use Rattle.netset_commands.proofs.commands.Command.read_lists.Goals as goal

pub returns-else-has_no_first_list : goal.returns-else-has_no_first_list
returns-else-has_no_first_list c =
    all_lists (request_of c.args.self.now) c.has_no_first_list.result (texts c.args.lists.now) c.has_no_first_list.ensures c.if-has_no_first_list.false
