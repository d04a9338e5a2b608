use Rattle.std.proofs.Common.{refl}
use Rattle.netset_uses.proofs.Telling.{matches_printed}
use Rattle.netset_uses.proofs.runs.match_second.Goals as goal

pub returns : goal.returns
returns c = matches_printed _ _ c.args.list.now c.args.file.now c.run.result refl refl refl c.run.ensures
