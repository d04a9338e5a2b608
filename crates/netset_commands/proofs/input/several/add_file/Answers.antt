use Rattle.std.proofs.Common.{sym}
use Rattle.netset_commands.proofs.EachFile.{list_read, networks_copied}
use Rattle.netset_commands.proofs.input.several.add_file.Goals as goal

pub returns-in_ok-watch-in-Some-Lines-Networks-clause-adds : goal.returns-in_ok-watch-in-Some-Lines-Networks-clause-adds
returns-in_ok-watch-in-Some-Lines-Networks-clause-adds g c =
    networks_copied (g.F.Sources.contents c.args.sources.now c.args.file.now) c.args.file.now c.args.lists.now c.extend-added.new.self c.in-Some-Lines-Networks.kept
    (rw (c.in-Some-Lines-Networks.field-0-is, c.in-Some-Lines-Networks.field-0-0-is) at c.in-Some-Lines-Networks.ensures) (rw (sym c.in_ok-watch-in-Some-Lines-Networks.ensures.made) at c.extend-added.ensures)

pub returns-in_default-clause-adds : goal.returns-in_default-clause-adds
returns-in_default-clause-adds g c =
    list_read (g.F.Sources.contents c.args.sources.now c.args.file.now) c.args.file.now c.args.lists.now c.read_file_lines.new.said c.read_file_lines.result
    c.read_file_lines.ensures.reads
