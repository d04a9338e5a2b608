use Rattle.std.proofs.Common.{◌≡◌}
use Rattle.cidr_lists.proofs.LineFeeds.{not_empty}
use Rattle.cidr_lists.proofs.entries.entry_of.Goals as goal

pub returns-in-Err : goal.returns-in-Err
returns-in-Err c =
    let field = c.trim_ascii-field.result.now in
    let same : c.in-Ok.text.now ≡ field = c.in-Ok.ensures.cases.0 in
    let refused = rw same at c.in-Err.ensures.value in
    (field, rw c.without_comment.ensures at c.trim_ascii-field.ensures.value, not_empty field _ c.is_empty.ensures c.if-is_empty.false, refused.0, refused.1, rw same at c.new.ensures)
