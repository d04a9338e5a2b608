use Rattle.std.proofs.Common.{◌∙◌, ap, option_copied, sym}
use Rattle.netset_commands.proofs.Loading.{given_named}
use Rattle.netset_commands.proofs.input.keeping.LoadedSources.kept.Goals as goal

pub returns-in-Some : goal.returns-in-Some
returns-in-Some g c =
    rw (sym c.self.view_is) (given_named (g.F.Sources.contents c.self.inside.sources.now) c.args.name.now c.self.inside.lists.now c.in-Some.list.now c.self.invariant
    (sym (ap option_copied c.in-Some.is) ∙ c.list_named.ensures))
