use Rattle.std.proofs.Common.{inl, inr, subst, List, ℕ}
use Rattle.std.proofs.lemmas.Bool.Decides.{not_from_Decides}
use Rattle.cidr_lists.specs.Fields.{AreFirstAndRest}
use Rattle.cidr_lists.proofs.prefix_lists.list_words.Goals as goal

pub returns-in_default : goal.returns-in_default
returns-in_default c = (c.parts_of.result.0.now, c.parts_of.result.1.now, c.parts_of.ensures, inl (c.in_default.ensures, c.bad_word.ensures))

pub returns-then-is_list_word : goal.returns-then-is_list_word
returns-then-is_list_word c = (
  c.parts_of.result.1.now,
  subst (λ (w : List ℕ). AreFirstAndRest c.args.text.now w c.parts_of.result.1.now) c.in-Some.ensures c.parts_of.ensures,
  subst (λ (w : List ℕ). AreFirstAndRest c.parts_of.result.1.now w c.parts_of-2.result.1.now) (c.is_list_word.ensures.0 c.if-is_list_word.true) c.parts_of-2.ensures,
)

pub returns : goal.returns
returns c = (
  c.parts_of.result.0.now,
  c.parts_of.result.1.now,
  c.parts_of.ensures,
  inr (
    (c.in-Some.family, c.in-Some.ensures),
    c.parts_of-2.result.0.now,
    c.parts_of-2.result.1.now,
    c.parts_of-2.ensures,
    (not_from_Decides c.is_list_word.result c.is_list_word.ensures c.if-is_list_word.false, c.bad_word-2.ensures),
  ),
)
