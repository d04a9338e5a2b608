use Rattle.std.proofs.Common.{arith}
use Rattle.cidr_rules.specs.Packets.{is_in, ranges_of}
use Rattle.cidr_rules.specs.Parts.{boxes_of}
use Rattle.cidr_rules.proofs.Cells.{cells_some}
use Rattle.cidr_rules.proofs.Cuts.{none_of}
use Rattle.cidr_rules.proofs.Steps.{hole_clear, hole_full, hole_met, hole_there}
use Rattle.cidr_rules.proofs.parts.settle.Goals as goal

pub cut-requires-clause-hole : goal.cut-requires-clause-hole
cut-requires-clause-hole g c =
    hole_full g.A.FieldValue.number c.args.holes.now c.in-Cut.i c.index-holes-i.result c.in-Cut.ensures.0 c.index-holes-i.is c.requires.holes

pub cut-requires-clause-met : goal.cut-requires-clause-met
cut-requires-clause-met g c =
    hole_met g.A.FieldValue.number c.args.holes.now c.in-Cut.i c.index-holes-i.result c.in-Cut.ensures.0 c.index-holes-i.is
    (ranges_of g.A.FieldValue.number c.args.region.now) c.in-Cut.ensures.1

pub returns-in-Skip : goal.returns-in-Skip
returns-in-Skip g c = (
  c.requires.parts,
  λ x clear. omega (arith, none_of (is_in (ranges_of g.A.FieldValue.number c.args.region.now) x) (c.in-Skip.ensures x clear)),
  omega (arith, cells_some (boxes_of g.A.FieldValue.number c.args.holes.now) 0 (ranges_of g.A.FieldValue.number c.args.region.now)),
)

pub returns-in_ok-cut-in-Cut : goal.returns-in_ok-cut-in-Cut
returns-in_ok-cut-in-Cut g c =
    let cut = c.in_ok-cut-in-Cut.ensures in (
      cut.full,
      λ x clear. cut.counts x (hole_clear g.A.FieldValue.number c.args.holes.now c.in-Cut.i c.index-holes-i.result c.in-Cut.ensures.0 c.index-holes-i.is x clear),
      cut.fewer (boxes_of g.A.FieldValue.number c.args.holes.now)
          (hole_there g.A.FieldValue.number c.args.holes.now c.in-Cut.i c.index-holes-i.result c.in-Cut.ensures.0 c.index-holes-i.is),
    )
