use Rattle.std.proofs.Common.{sym, ◌∙◌}
use Rattle.std.proofs.lemmas.Bool.{true≢false}
use Rattle.cidr_lists.proofs.FieldsAt.{bad_address}
use Rattle.cidr_lists.proofs.LineFeeds.{not_empty}
use Rattle.cidr_lists.proofs.fields.address_at.Goals as goal

pub returns-in-Err : goal.returns-in-Err
returns-in-Err c =
    bad_address c.args.column c.args.line.now c.field_at-field.result.now c.in-Err.e
    (c.trim_ascii.result.now, c.trim_ascii.ensures.value, λ nothing. true≢false (sym (c.is_no_row.ensures.1 nothing) ∙ c.if-is_no_row.false))
    c.field_at-field.ensures (not_empty c.field_at-field.result.now _ c.is_empty.ensures c.if-is_empty.false) c.in-Err.ensures
