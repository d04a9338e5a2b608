use Rattle.std.proofs.Common.{◌≡◌}
use Rattle.cidr_lists.proofs.PlainTexts.{is_field, with_masks}
use Rattle.cidr_lists.proofs.lines.content_of.Goals as goal

pub returns-in-Some : goal.returns-in-Some
returns-in-Some c = (
  c.args.line.now,
  is_field c.args.host_bits c.args.line.now c.in-Some.network c.in-Some.ensures,
  with_masks c.args.host_bits c.args.line.now c.in-Some.network c.in-Some.ensures,
)

pub returns-in-Ok : goal.returns-in-Ok
returns-in-Ok c =
    let field = c.trim_ascii-field.result.now in
    let same : c.in-Ok.text.now ≡ field = c.in-Ok.ensures.cases.0 in
    (field, rw c.without_comment.ensures at c.trim_ascii-field.ensures.value, rw same at c.content_of_field.ensures)
