use Rattle.std.proofs.Common.{sym, ◌∙◌}
use Rattle.std.proofs.lemmas.Bool.{true≢false}
use Rattle.cidr_lists.proofs.columns.split_row.Goals as goal

pub returns : goal.returns
returns c = (
  (c.trim_ascii.result.now, c.trim_ascii.ensures.value, λ nothing. true≢false (sym (c.is_no_row.ensures.1 nothing) ∙ c.if-is_no_row.false)),
  rw c.fields_in.ensures.field at c.trim_ascii-2.ensures.value,
  rw c.fields_in.ensures.behind at c.trim_ascii-3.ensures.value,
)
