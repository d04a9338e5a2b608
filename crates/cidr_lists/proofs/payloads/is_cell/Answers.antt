use Rattle.std.proofs.Common.{subst, List, ℕ}
use Rattle.std.proofs.lemmas.Slice.Eq.{slice_eq-Decides}
use Rattle.std.specs.Cmp.{unsigned_Decides}
use Rattle.cidr_lists.specs.Fields.{field_at}
use Rattle.cidr_lists.specs.PayloadFiles.{IsCell, comma}
use Rattle.cidr_lists.proofs.Standing.{one_trimmed}
use Rattle.cidr_lists.proofs.payloads.is_cell.Goals as goal

pub returns : goal.returns
returns c =
    let same = slice_eq-Decides unsigned_Decides c.cell.result.now c.args.word.now c.eq.result c.eq.ensures in (
      λ t. subst (λ (field : List ℕ). IsCell c.args.place c.args.line.now field) (same.0 t) c.cell.ensures,
      λ h. same.1 (one_trimmed (field_at comma c.args.place c.args.line.now) c.cell.result.now c.args.word.now c.cell.ensures h),
    )
