use Rattle.std.proofs.Common.{refl, arith}
use Rattle.netset_uses.proofs.Telling.{merges_printed, merges_told}
use Rattle.netset_uses.proofs.runs.merge.Goals as goal

pub returns-clause-printed : goal.returns-clause-printed
returns-clause-printed c = merges_printed _ _ c.args.list.now c.run.result refl refl c.run.ensures

pub returns-clause-error : goal.returns-clause-error
returns-clause-error c = merges_told _ _ c.args.list.now c.run.result refl refl (omega arith) c.run.ensures
