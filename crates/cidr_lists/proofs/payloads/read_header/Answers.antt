use Rattle.std.proofs.Common.{refl}
use Rattle.cidr_lists.specs.PayloadFiles.{IsHeader, IsNoHeader}
use Rattle.cidr_lists.specs.declared.route_errors.RouteError.TheVariants.{NoHeader}
use Rattle.cidr_lists.proofs.LinesPassed.{long_line, short_bad, short_says}
use Rattle.cidr_lists.proofs.WholeTexts.{short_line}
use Rattle.cidr_lists.proofs.payloads.read_header.Goals as goal

pub returns-then-is_too_long : goal.returns-then-is_too_long
returns-then-is_too_long c = (refl, long_line IsNoHeader c.args.line.now (c.is_too_long.ensures.0 c.if-is_too_long.true))

pub returns-in-Some : goal.returns-in-Some
returns-in-Some c =
    short_says (λ k layout. IsHeader layout k) c.args.line.now c.in-Some.layout
    (short_line c.is_too_long.result c.args.line.now c.is_too_long.ensures c.if-is_too_long.false) c.in-Some.ensures

pub returns-in-None : goal.returns-in-None
returns-in-None c = (
  refl,
  short_bad IsNoHeader c.args.line.now (NoHeader c.byte_excerpt-shown.result)
      (short_line c.is_too_long.result c.args.line.now c.is_too_long.ensures c.if-is_too_long.false)
      (c.in-None.ensures, c.cell.result.now, c.cell.ensures, c.byte_excerpt-shown.ensures.text),
)
