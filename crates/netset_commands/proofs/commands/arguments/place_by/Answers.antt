use Rattle.netset_commands.proofs.FieldNumbers.{place_read}
use Rattle.netset_commands.proofs.commands.arguments.place_by.Goals as goal

pub returns : goal.returns
returns c = place_read c.args.number.now c.place_of.result c.place_of.ensures
