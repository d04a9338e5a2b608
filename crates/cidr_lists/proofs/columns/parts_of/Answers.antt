use Rattle.std.proofs.Common.{subst, List, ℕ}
use Rattle.std.specs.Str.{IsTrimAscii}
use Rattle.cidr_lists.proofs.columns.parts_of.Goals as goal

pub returns : goal.returns
returns c = (
  c.first_field-first.ensures.field,
  subst (λ (k : List ℕ). IsTrimAscii k c.trim_ascii.result.now) c.split_at.ensures.back c.trim_ascii.ensures.value,
)
