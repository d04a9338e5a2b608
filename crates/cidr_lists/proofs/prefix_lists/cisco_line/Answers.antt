use Rattle.std.proofs.Common.{sym, ◌∙◌, inl, inr, subst, List, ℕ}
use Rattle.std.proofs.lemmas.Bool.{true≢false}
use Rattle.std.proofs.lemmas.Bool.Decides.{not_from_Decides}
use Rattle.cidr_lists.specs.Fields.{AreFirstAndRest}
use Rattle.cidr_lists.proofs.prefix_lists.cisco_line.Goals as goal

pub returns-in-Err : goal.returns-in-Err
returns-in-Err c = (
  c.trim_ascii-text.result.now,
  c.parts_of.result.0.now,
  c.parts_of.result.1.now,
  (c.trim_ascii-text.ensures.value, λ nothing. true≢false (sym (c.is_no_row.ensures.1 nothing) ∙ c.if-is_no_row.false)),
  c.parts_of.ensures,
  inl (c.is_no_word.ensures.0 c.if-is_no_word.true, c.in-Err.ensures),
)

pub returns-in-Ok : goal.returns-in-Ok
returns-in-Ok c = (
  c.trim_ascii-text.result.now,
  c.parts_of.result.1.now,
  (c.trim_ascii-text.ensures.value, λ nothing. true≢false (sym (c.is_no_row.ensures.1 nothing) ∙ c.if-is_no_row.false)),
  subst (λ (w : List ℕ). AreFirstAndRest c.trim_ascii-text.result.now w c.parts_of.result.1.now) (c.is_no_word.ensures.0 c.if-is_no_word.true) c.parts_of.ensures,
  c.in-Ok.ensures,
)

pub returns-in-Err-list_row : goal.returns-in-Err-list_row
returns-in-Err-list_row c = (
  c.trim_ascii-text.result.now,
  c.parts_of.result.0.now,
  c.parts_of.result.1.now,
  (c.trim_ascii-text.ensures.value, λ nothing. true≢false (sym (c.is_no_row.ensures.1 nothing) ∙ c.if-is_no_row.false)),
  c.parts_of.ensures,
  inr (not_from_Decides c.is_no_word.result c.is_no_word.ensures c.if-is_no_word.false, c.in-Err-list_row.ensures),
)

pub returns-in-Ok-list_row : goal.returns-in-Ok-list_row
returns-in-Ok-list_row c = (
  c.trim_ascii-text.result.now,
  (c.trim_ascii-text.ensures.value, λ nothing. true≢false (sym (c.is_no_row.ensures.1 nothing) ∙ c.if-is_no_row.false)),
  c.in-Ok-list_row.ensures,
)
