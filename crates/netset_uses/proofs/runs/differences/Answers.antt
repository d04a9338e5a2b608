use Rattle.std.proofs.Common.{refl}
use Rattle.netset_uses.proofs.Telling.{diff_printed}
use Rattle.netset_uses.proofs.runs.differences.Goals as goal

pub returns : goal.returns
returns c = diff_printed _ _ c.args.old.now c.args.new.now c.run.result refl refl refl c.run.ensures
