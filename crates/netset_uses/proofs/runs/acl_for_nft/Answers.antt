use Rattle.std.proofs.Common.{refl}
use Rattle.netset_uses.proofs.Telling.{nft_printed}
use Rattle.netset_uses.proofs.runs.acl_for_nft.Goals as goal

pub returns : goal.returns
returns c = nft_printed _ _ c.args.rules.now c.run.result refl refl c.run.ensures
