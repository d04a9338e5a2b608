use Rattle.netset_commands.proofs.Good.{bits_kept}
use Rattle.netset_commands.proofs.input.good.GoodListsSources.list_form.Goals as goal

pub returns : goal.returns
returns g c name text at = bits_kept c.args.self.now.list_form text _ (g.F.Sources.contents c.args.self.now.sources.now name) at
