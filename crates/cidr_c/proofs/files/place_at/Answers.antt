use Rattle.std.proofs.Common.{refl, ◌∙◌, ap, arith}
use Rattle.cidr_files.specs.Tables.{value_in}
use Rattle.cidr_c.specs.model.Files.{parts_at}
use Rattle.cidr_c.proofs.files.place_at.Goals as goal

pub returns-in-Some-clause-value : goal.returns-in-Some-clause-value
returns-in-Some-clause-value c = λ _ size _ _ _ _.
    c.in-Some.ensures.value size ∙ ap (value_in (parts_at size c.args.table.now c.args.bytes.now)) c.saturating_sub.ensures

pub returns-in-None-clause-value : goal.returns-in-None-clause-value
returns-in-None-clause-value c = λ some size inside rows l good.
    absurd (c.in-None.ensures.none refl size inside rows (omega (arith, l, c.saturating_sub.ensures)) good)
