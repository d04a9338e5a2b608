use Rattle.netset_commands.proofs.Described.{no_mask, of_mask}
use Rattle.netset_commands.proofs.commands.describe.mask_length_of.Goals as goal

pub returns-in_default : goal.returns-in_default
returns-in_default c = no_mask c.args.text.now c.in_default.ensures.value.1

pub returns : goal.returns
returns c = of_mask c.args.text.now c.in-Ok.mask c.length_of_mask.result c.in-Ok.ensures.value c.length_of_mask.ensures
