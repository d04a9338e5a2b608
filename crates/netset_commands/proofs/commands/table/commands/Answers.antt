use Rattle.std.proofs.Common.{refl}
use Rattle.netset_commands.specs.Table.{commands}
use Rattle.netset_commands.proofs.commands.table.commands.Goals as goal

pub returns : goal.returns
unfolding commands
returns c = refl
