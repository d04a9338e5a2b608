use Rattle.std.proofs.Common.{refl}
use Rattle.netset_uses.proofs.Telling.{changes_printed}
use Rattle.netset_uses.proofs.runs.compared.Goals as goal

pub returns : goal.returns
returns c = changes_printed _ _ c.args.old.now c.args.rules.now c.run.result refl refl refl c.run.ensures
