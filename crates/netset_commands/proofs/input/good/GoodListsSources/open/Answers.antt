use Rattle.std.proofs.Common.{◌∙◌, ap, option_copied, sym}
use Rattle.netset_commands.proofs.Good.{held_told}
use Rattle.netset_commands.proofs.input.good.GoodListsSources.open.Goals as goal

pub returns-in-Some-clause-left : goal.returns-in-Some-clause-left
returns-in-Some-clause-left g c text at =
    held_told c.args.self.now.list_form text _ (g.F.Sources.contents c.args.self.now.sources.now c.args.name.now) c.in-Some.list.now _
    (sym (ap option_copied c.in-Some.is) ∙ c.list_named.ensures) c.good_bytes.ensures at
