use Rattle.std.proofs.Common.{◌∙◌}
use Rattle.netset_commands.proofs.Arguments.{any_of}
use Rattle.netset_commands.proofs.commands.matching.has.Goals as goal

pub returns : goal.returns
returns c = c.contains.ensures.value ∙ any_of c.args.name.now c.args.options.now
