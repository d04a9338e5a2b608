use Rattle.std.proofs.Common.{[], refl}
use Rattle.cidr_lists.specs.declared.formats.LineFormat.TheVariants.{Plain}
use Rattle.cidr_lists.specs.declared.objects.Telling.TheVariants.{Alone}
use Rattle.netset_uses.specs.Runs.{by_words}
use Rattle.netset_uses.proofs.Telling.{look_typed, looks_printed}
use Rattle.netset_uses.proofs.runs.look.Goals as goal

pub returns : goal.returns
returns c = looks_printed Alone (by_words Plain) [] _ c.args.table.now c.args.file.now refl refl refl _ c.run.result refl look_typed c.run.ensures
