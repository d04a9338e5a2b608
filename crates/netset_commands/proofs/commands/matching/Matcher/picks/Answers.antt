use Rattle.std.proofs.Common.{inl, inr}
use Rattle.cidr_lists.specs.Sets.{IsInSets}
use Rattle.netset_commands.proofs.LinesRead.{fits}
use Rattle.netset_commands.proofs.Matched.{picks_anywhere}
use Rattle.netset_commands.proofs.commands.matching.Matcher.picks.Goals as goal

pub returns-then-is_too_long : goal.returns-then-is_too_long
returns-then-is_too_long c = inl (c.passed_over.ensures, c.is_too_long.ensures.0 c.if-is_too_long.true)

pub returns-then-self : goal.returns-then-self
returns-then-self c = inr (
  fits c.args.line.now c.is_too_long.result c.is_too_long.ensures c.if-is_too_long.false,
  rw c.if-self.true (picks_anywhere c.args.self.now.picking.column (IsInSets c.args.self.now.sets.now) c.args.self.now.picking.inverted c.args.line.now c.have_one.result c.is_picked.result
      c.is_picked.ensures c.have_one.ensures),
)

pub returns : goal.returns
returns c = inr (fits c.args.line.now c.is_too_long.result c.is_too_long.ensures c.if-is_too_long.false, rw c.if-self.false c.picks_by_field.ensures)
