use Rattle.std.proofs.Common.{subst, ◌∙◌, List, ℕ}
use Rattle.std.specs.Str.{IsTrimAscii}
use Rattle.cidr_lists.specs.Fields.{begin_of}
use Rattle.cidr_lists.specs.declared.columns.Separator.TheVariants.{WhiteSpace}
use Rattle.cidr_lists.proofs.FieldsAt.{untrimmed}
use Rattle.cidr_lists.proofs.columns.field_at.Goals as goal

pub returns-in-WhiteSpace : goal.returns-in-WhiteSpace
returns-in-WhiteSpace c =
    subst (λ (k : List ℕ). IsTrimAscii k c.field_in-field.result.now) (c.field_in-field.ensures ∙ c.rest_at.ensures)
    (untrimmed (begin_of WhiteSpace c.rest_at.result.now) c.field_in-field.result.now (rw c.in-WhiteSpace.is at c.field_in-field.ensures))

pub returns-in-Byte : goal.returns-in-Byte
returns-in-Byte c = rw (c.field_in-field.ensures, c.rest_at.ensures) at c.trim_ascii.ensures.value
