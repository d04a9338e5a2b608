use Rattle.std.proofs.Common.{sym, ◌∙◌, inl, refl}
use Rattle.std.proofs.lemmas.Bool.{true≢false}
use Rattle.cidr_lists.proofs.Contents.{is_nothing}
use Rattle.cidr_lists.proofs.LineFeeds.{not_empty}
use Rattle.cidr_lists.proofs.records.record_content.Goals as goal

pub returns-then-is_empty : goal.returns-then-is_empty
returns-then-is_empty c = inl (
  (c.trim_ascii.result.now, c.trim_ascii.ensures.value, λ nothing. true≢false (sym (c.is_no_row.ensures.1 nothing) ∙ c.if-is_no_row.false)),
  rw (c.record_column.ensures, is_nothing c.field_at-value.result.now _ c.is_empty.ensures c.if-is_empty.true) at c.field_at-value.ensures,
  refl,
)

pub returns : goal.returns
returns c = c.fields_say.ensures c.args.line.now (
  (c.trim_ascii.result.now, c.trim_ascii.ensures.value, λ nothing. true≢false (sym (c.is_no_row.ensures.1 nothing) ∙ c.if-is_no_row.false)),
  rw c.record_column-2.ensures at c.field_at-registry.ensures,
  rw c.record_column-3.ensures at c.field_at-kind.ensures,
  rw c.record_column-4.ensures at c.field_at-start.ensures,
  rw c.record_column.ensures at c.field_at-value.ensures,
  rw c.record_column-5.ensures at c.field_at-status.ensures,
  not_empty c.field_at-value.result.now _ c.is_empty.ensures c.if-is_empty.false,
)
