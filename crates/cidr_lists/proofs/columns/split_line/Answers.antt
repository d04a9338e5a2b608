use Rattle.cidr_lists.proofs.LineFeeds.{not_empty}
use Rattle.cidr_lists.proofs.columns.split_line.Goals as goal

pub returns : goal.returns
returns c = (
  c.trim_ascii-field.result.now,
  rw c.without_comment.ensures at c.trim_ascii-field.ensures.value,
  not_empty c.trim_ascii-field.result.now _ c.is_empty.ensures c.if-is_empty.false,
  c.parts_of-parts.ensures,
)
