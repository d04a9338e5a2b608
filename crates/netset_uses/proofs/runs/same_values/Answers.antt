use Rattle.std.proofs.Common.{refl}
use Rattle.netset_uses.proofs.SameValues.{same_printed}
use Rattle.netset_uses.proofs.runs.same_values.Goals as goal

pub returns : goal.returns
returns c = same_printed _ _ c.args.old.now c.args.new.now c.run.result refl refl refl c.run.ensures
