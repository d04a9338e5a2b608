use Rattle.netset_commands.proofs.EachFile.{file_set}
use Rattle.netset_commands.proofs.input.several.read_file.Goals as goal

pub returns-clause-reads : goal.returns-clause-reads
returns-clause-reads g c =
    file_set (g.F.Sources.contents c.args.sources.now c.args.file.now) c.args.file.now c.new-lists.result c.add_file.new.lists c.of_lists.result
    c.new-lists.ensures.v4 c.new-lists.ensures.v6 c.in_ok-add_file.ensures.adds c.of_lists.ensures
