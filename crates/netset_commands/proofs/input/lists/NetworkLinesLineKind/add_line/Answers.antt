use Rattle.netset_commands.proofs.EachFile.{list_longer}
use Rattle.netset_commands.proofs.input.lists.NetworkLinesLineKind.add_line.Goals as goal

pub returns-clause-adds : goal.returns-clause-adds
returns-clause-adds g c =
    list_longer c.args.list_form c.args.line.now c.args.number c.args.said.now c.add_list_line.new.lists c.add_list_line.result c.add_list_line.ensures.adds
