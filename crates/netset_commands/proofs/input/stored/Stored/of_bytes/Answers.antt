use Rattle.netset_commands.proofs.StoredFiles.{table_had}
use Rattle.netset_commands.proofs.input.stored.Stored.of_bytes.Goals as goal

pub returns-in-Ok : goal.returns-in-Ok
returns-in-Ok c = table_had c.args.bytes.now c.in-Ok.tables c.in-Ok.ensures.file c.in-Ok.ensures.cut
