use Rattle.std.proofs.Common.{◌+◌, refl, sym, ◌∙◌, subst, inl, inr, ℕ}
use Rattle.std.proofs.lemmas.Bool.{true≢false}
use Rattle.cidr_lists.specs.PayloadFiles.{IsCell}
use Rattle.cidr_lists.proofs.Contents.{is_nothing}
use Rattle.cidr_lists.proofs.LineFeeds.{not_empty}
use Rattle.cidr_lists.proofs.payloads.payload_of.Goals as goal

pub returns-then-is_empty : goal.returns-then-is_empty
returns-then-is_empty c = (
  c.cell-origin.result.now,
  c.cell-network.result.now,
  c.cell-most.result.now,
  (
    (c.trim_ascii.result.now, c.trim_ascii.ensures.value, λ nothing. true≢false (sym (c.is_no_row.ensures.1 nothing) ∙ c.if-is_no_row.false)),
    subst (λ (k : ℕ). IsCell k c.args.line.now c.cell-origin.result.now) c.as_place-place.ensures.value c.cell-origin.ensures,
    subst (λ (k : ℕ). IsCell (k + 1) c.args.line.now c.cell-network.result.now) c.as_place-place.ensures.value c.cell-network.ensures,
    subst (λ (k : ℕ). IsCell (k + 2) c.args.line.now c.cell-most.result.now) c.as_place-place.ensures.value c.cell-most.ensures,
  ),
  inl (is_nothing c.cell-most.result.now _ c.is_empty.ensures c.if-is_empty.true, refl),
)

pub returns-in-Ok : goal.returns-in-Ok
returns-in-Ok c = (
  c.cell-origin.result.now,
  c.cell-network.result.now,
  c.cell-most.result.now,
  (
    (c.trim_ascii.result.now, c.trim_ascii.ensures.value, λ nothing. true≢false (sym (c.is_no_row.ensures.1 nothing) ∙ c.if-is_no_row.false)),
    subst (λ (k : ℕ). IsCell k c.args.line.now c.cell-origin.result.now) c.as_place-place.ensures.value c.cell-origin.ensures,
    subst (λ (k : ℕ). IsCell (k + 1) c.args.line.now c.cell-network.result.now) c.as_place-place.ensures.value c.cell-network.ensures,
    subst (λ (k : ℕ). IsCell (k + 2) c.args.line.now c.cell-most.result.now) c.as_place-place.ensures.value c.cell-most.ensures,
  ),
  c.in-Ok.ensures,
)

pub returns-in-Err : goal.returns-in-Err
returns-in-Err c = (
  c.cell-origin.result.now,
  c.cell-network.result.now,
  c.cell-most.result.now,
  (
    (c.trim_ascii.result.now, c.trim_ascii.ensures.value, λ nothing. true≢false (sym (c.is_no_row.ensures.1 nothing) ∙ c.if-is_no_row.false)),
    subst (λ (k : ℕ). IsCell k c.args.line.now c.cell-origin.result.now) c.as_place-place.ensures.value c.cell-origin.ensures,
    subst (λ (k : ℕ). IsCell (k + 1) c.args.line.now c.cell-network.result.now) c.as_place-place.ensures.value c.cell-network.ensures,
    subst (λ (k : ℕ). IsCell (k + 2) c.args.line.now c.cell-most.result.now) c.as_place-place.ensures.value c.cell-most.ensures,
  ),
  inr (not_empty c.cell-most.result.now _ c.is_empty.ensures c.if-is_empty.false, c.in-Err.ensures),
)
