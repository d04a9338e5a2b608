use Rattle.std.proofs.Common.{refl}
use Rattle.netset_uses.proofs.Telling.{goods_printed}
use Rattle.netset_uses.proofs.runs.merge_good.Goals as goal

pub returns : goal.returns
returns c = goods_printed _ _ c.args.list.now c.run.result refl refl c.run.ensures
