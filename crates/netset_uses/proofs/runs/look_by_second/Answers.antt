use Rattle.std.proofs.Common.{[], ◌∷◌, codes, refl}
use Rattle.cidr_lists.specs.declared.objects.Telling.TheVariants.{Alone}
use Rattle.netset_uses.specs.Runs.{by_second}
use Rattle.netset_uses.proofs.Telling.{looks_printed, second_look_typed}
use Rattle.netset_uses.proofs.runs.look_by_second.Goals as goal

pub returns : goal.returns
returns c =
    looks_printed Alone by_second (codes "--table-separator" ∷ codes "," ∷ codes "--table-fields" ∷ codes "2,1" ∷ []) _ c.args.table.now c.args.file.now refl refl refl
    _ c.run.result refl second_look_typed c.run.ensures
