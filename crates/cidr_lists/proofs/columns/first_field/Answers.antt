use Rattle.std.proofs.Common.{ap, take, ℕ}
use Rattle.cidr_lists.proofs.columns.first_field.Goals as goal

pub returns-clause-field : goal.returns-clause-field
returns-clause-field c = (
  c.trim_ascii_start-rest.result.now,
  c.trim_ascii_start-rest.ensures.value,
  ap (λ (n : ℕ). take n c.trim_ascii_start-rest.result.now) c.len_to_white_space.ensures.first,
)
