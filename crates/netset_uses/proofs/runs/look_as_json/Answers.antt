use Rattle.std.proofs.Common.{[], ◌∷◌, codes, refl}
use Rattle.cidr_lists.specs.declared.formats.LineFormat.TheVariants.{Json}
use Rattle.cidr_lists.specs.declared.objects.Telling.TheVariants.{Objects}
use Rattle.netset_uses.specs.Runs.{by_words}
use Rattle.netset_uses.proofs.Telling.{json_look_typed, looks_printed}
use Rattle.netset_uses.proofs.runs.look_as_json.Goals as goal

pub returns : goal.returns
returns c =
    looks_printed Objects (by_words Json) (codes "--format" ∷ codes "json" ∷ []) _ c.args.table.now c.args.file.now refl refl refl _ c.run.result refl json_look_typed
    c.run.ensures
