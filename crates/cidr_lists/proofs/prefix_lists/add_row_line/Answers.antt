use Rattle.std.proofs.Common.{◌≡◌, ◌∙◌, refl, ap, ap₂, Bool, List, ℕ, Option, option_map}
use Rattle.cidr_lists.specs.ListTexts.{numbered_of, rows_after}
use Rattle.cidr_lists.specs.PrefixLists.{CiscoSays, HasBadCiscoWords}
use Rattle.cidr_lists.specs.declared.prefix_lists.ListChange.{ListChange}
use Rattle.cidr_lists.specs.declared.prefix_lists.NumberedRow.{NumberedRow}
use Rattle.cidr_lists.proofs.LinesPassed.{long_line, short_bad, short_says}
use Rattle.cidr_lists.proofs.WholeTexts.{short_line}
use Rattle.cidr_lists.proofs.prefix_lists.add_row_line.Goals as goal

pub returns-then-is_too_long : goal.returns-then-is_too_long
returns-then-is_too_long c = (refl, long_line HasBadCiscoWords c.args.line.now (c.is_too_long.ensures.0 c.if-is_too_long.true))

pub returns-in_ok-change_if-in-Ok : goal.returns-in_ok-change_if-in-Ok
returns-in_ok-change_if-in-Ok c = (
  (option_map (λ name. name.now) c.in-Ok.list, c.in-Ok.change),
  short_says (λ (line : List ℕ) (said : Option (List ℕ) × Option ListChange). CiscoSays line said.0 said.1) c.args.line.now
      (option_map (λ name. name.now) c.in-Ok.list, c.in-Ok.change)
      (short_line c.is_too_long.result c.args.line.now c.is_too_long.ensures c.if-is_too_long.false) c.in-Ok.ensures,
  λ family. ap₂ (λ (b : Bool) (r : List (NumberedRow (List Bool))). (b, r)) c.is_about-about.ensures
      (c.in_ok-change_if-in-Ok.ensures family ∙ ap (λ (b : Bool). rows_after family b (numbered_of c.args.rows.now family) c.in-Ok.change) c.is_about-about.ensures),
)

pub returns-in-Err : goal.returns-in-Err
returns-in-Err c = (
  refl,
  short_bad HasBadCiscoWords c.args.line.now c.in-Err.e
      (short_line c.is_too_long.result c.args.line.now c.is_too_long.ensures c.if-is_too_long.false) c.in-Err.ensures,
)
