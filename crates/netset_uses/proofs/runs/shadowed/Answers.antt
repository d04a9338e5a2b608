use Rattle.std.proofs.Common.{refl}
use Rattle.netset_uses.proofs.Telling.{shadows_printed}
use Rattle.netset_uses.proofs.runs.shadowed.Goals as goal

pub returns : goal.returns
returns c = shadows_printed _ _ c.args.rules.now c.run.result refl refl c.run.ensures
