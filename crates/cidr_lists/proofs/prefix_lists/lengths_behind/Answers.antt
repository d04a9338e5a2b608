use Rattle.std.proofs.Common.{inl, inr, subst, List, ℕ, codes}
use Rattle.cidr_lists.specs.PrefixLists.{OptionSays}
use Rattle.cidr_lists.proofs.prefix_lists.lengths_behind.Goals as goal

pub returns-in-Err : goal.returns-in-Err
returns-in-Err c = inr (c.args.ge, c.args.rest.now, c.requires, inl c.in-Err.ensures)

pub returns-in-Err-nothing_in : goal.returns-in-Err-nothing_in
returns-in-Err-nothing_in c = inr (
  c.args.ge,
  c.args.rest.now,
  c.requires,
  inr (c.in-Ok.le.0, c.in-Ok.le.1.now, c.in-Ok.ensures, inl c.in-Err-nothing_in.ensures),
)

pub returns-in-Some : goal.returns-in-Some
returns-in-Some c = (
  c.args.ge,
  c.in-Ok.le.0,
  c.args.rest.now,
  c.requires,
  subst (λ (b : List ℕ). OptionSays (codes "le") c.args.rest.now c.in-Ok.le.0 b) c.in-Ok-nothing_in.ensures c.in-Ok.ensures,
  c.in-Some.ensures.0,
  c.in-Some.ensures.1,
  c.in-Some.ensures.2,
)

pub returns-in-None : goal.returns-in-None
returns-in-None c = inr (
  c.args.ge,
  c.args.rest.now,
  c.requires,
  inr (
    c.in-Ok.le.0,
    c.in-Ok.le.1.now,
    c.in-Ok.ensures,
    inr (c.in-Ok-nothing_in.ensures, (c.in-None.ensures, c.byte_excerpt.ensures.text)),
  ),
)
