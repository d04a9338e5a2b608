use Rattle.std.proofs.Common.{refl}
use Rattle.netset_uses.proofs.Telling.{acl_printed}
use Rattle.netset_uses.proofs.runs.acl.Goals as goal

pub returns : goal.returns
returns c = acl_printed _ _ c.args.rules.now c.run.result refl refl c.run.ensures
