use Rattle.netset_commands.proofs.EntriesRead.{entries_longer}
use Rattle.netset_commands.proofs.input.entries.HostLinesLineKind.add_line.Goals as goal

pub returns-clause-adds : goal.returns-clause-adds
returns-clause-adds g c =
    entries_longer c.args.self.now.file.now c.args.line.now c.args.number c.args.said.now c.add_entry_line.new.entries c.add_entry_line.result c.add_entry_line.ensures.adds
