use Rattle.std.proofs.Common.{refl, inl, inr, subst, List, ℕ}
use Rattle.cidr_lists.specs.Fields.{AreFirstAndRest}
use Rattle.cidr_lists.proofs.Contents.{is_nothing}
use Rattle.cidr_lists.proofs.LineFeeds.{not_empty}
use Rattle.cidr_lists.proofs.prefix_lists.cleared_list.Goals as goal

pub returns-then-is_empty : goal.returns-then-is_empty
returns-then-is_empty c = inr (
  c.in-Ok.family,
  c.in-Ok.rest.now,
  c.parts_of.result.0.now,
  c.parts_of.result.1.now,
  c.in-Ok.ensures,
  c.parts_of.ensures,
  inl (is_nothing c.parts_of.result.0.now _ c.is_empty.ensures c.if-is_empty.true, refl),
)

pub returns-in-Err-nothing_in : goal.returns-in-Err-nothing_in
returns-in-Err-nothing_in c = inr (
  c.in-Ok.family,
  c.in-Ok.rest.now,
  c.parts_of.result.0.now,
  c.parts_of.result.1.now,
  c.in-Ok.ensures,
  c.parts_of.ensures,
  inr (not_empty c.parts_of.result.0.now _ c.is_empty.ensures c.if-is_empty.false, c.in-Err-nothing_in.ensures),
)

pub returns-in-Ok-nothing_in : goal.returns-in-Ok-nothing_in
returns-in-Ok-nothing_in c = (
  c.in-Ok.rest.now,
  c.in-Ok.ensures,
  subst (λ (b : List ℕ). AreFirstAndRest c.in-Ok.rest.now c.parts_of.result.0.now b) c.in-Ok-nothing_in.ensures c.parts_of.ensures,
  not_empty c.parts_of.result.0.now _ c.is_empty.ensures c.if-is_empty.false,
)
