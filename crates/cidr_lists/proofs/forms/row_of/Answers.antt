use Rattle.std.proofs.Common.{inl, inr}
use Rattle.cidr_lists.proofs.forms.row_of.Goals as goal

pub returns-in-Err : goal.returns-in-Err
returns-in-Err c = (c.in-Some.ensures.0, c.in-Some.first.now, c.in-Some.rest.now, c.in-Some.ensures.1, inl c.in-Err.ensures)

pub returns-in-Ok-check_value : goal.returns-in-Ok-check_value
returns-in-Ok-check_value c =
    (c.in-Some.ensures.0, c.in-Some.first.now, c.in-Some.rest.now, c.in-Some.ensures.1, c.in-Ok.ensures, c.in-Ok-check_value.ensures)

pub returns-in-Err-check_value : goal.returns-in-Err-check_value
returns-in-Err-check_value c = (
  c.in-Some.ensures.0,
  c.in-Some.first.now,
  c.in-Some.rest.now,
  c.in-Some.ensures.1,
  inr (c.in-Ok.row.0, c.in-Ok.row.1.now, c.in-Ok.ensures, c.in-Err-check_value.ensures),
)
