use Rattle.std.proofs.Common.{inr}
use Rattle.cidr_lists.proofs.LineFeeds.{not_empty}
use Rattle.cidr_lists.proofs.prefix_lists.name_row.Goals as goal

pub returns-in-Err : goal.returns-in-Err
returns-in-Err c = (
  c.parts_of.result.0.now,
  c.parts_of.result.1.now,
  c.parts_of.ensures,
  inr (not_empty c.parts_of.result.0.now _ c.is_empty.ensures c.if-is_empty.false, c.in-Err.ensures),
)

pub returns-in-Ok : goal.returns-in-Ok
returns-in-Ok c =
    (c.parts_of.result.1.now, c.parts_of.ensures, not_empty c.parts_of.result.0.now _ c.is_empty.ensures c.if-is_empty.false, c.in-Ok.ensures)
