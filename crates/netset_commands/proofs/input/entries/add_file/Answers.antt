use Rattle.netset_commands.proofs.EntriesRead.{entries_copied, entries_read}
use Rattle.netset_commands.proofs.input.entries.add_file.Goals as goal

pub returns-in_ok-add_kept-in-Some-Lines-Hosts-clause-adds : goal.returns-in_ok-add_kept-in-Some-Lines-Hosts-clause-adds
returns-in_ok-add_kept-in-Some-Lines-Hosts-clause-adds g c =
    entries_copied (g.F.Sources.contents c.args.sources.now c.args.file.now) c.args.file.now c.args.entries.now.items c.add_kept.new.entries.items c.in-Some-Lines-Hosts.kept.items
    (rw (c.in-Some-Lines-Hosts.field-0-is, c.in-Some-Lines-Hosts.field-0-0-is) at c.in-Some-Lines-Hosts.ensures) (rw c.as_slice.ensures.value at c.in_ok-add_kept-in-Some-Lines-Hosts.ensures.added)

pub returns-in_default-clause-adds : goal.returns-in_default-clause-adds
returns-in_default-clause-adds g c =
    entries_read (g.F.Sources.contents c.args.sources.now c.args.file.now) c.args.file.now c.args.entries.now.items c.read_file_lines.new.said c.read_file_lines.result
    c.read_file_lines.ensures.reads
