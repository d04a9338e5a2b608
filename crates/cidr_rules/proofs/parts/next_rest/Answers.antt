use Rattle.std.proofs.Common.{ap, arith}
use Rattle.cidr_rules.specs.Packets.{ranges_of}
use Rattle.cidr_rules.specs.Parts.{all_cells, boxes_of, held}
use Rattle.cidr_rules.proofs.Cells.{cells_some}
use Rattle.cidr_rules.proofs.Steps.{popped_cells, popped_full, popped_held}
use Rattle.cidr_rules.proofs.parts.next_rest.Goals as goal

pub returns-then-budget-eq0-clause-limit : goal.returns-then-budget-eq0-clause-limit
returns-then-budget-eq0-clause-limit g c = λ _. omega (
  arith,
  c.loop-region.invariant.cells,
  popped_cells g.A.FieldValue.number c.loop-region.parts.items c.pop.new.self.items c.in-Some.region c.in-Some.ensures.items (boxes_of g.A.FieldValue.number c.args.holes.now),
  cells_some (boxes_of g.A.FieldValue.number c.args.holes.now) 0 (ranges_of g.A.FieldValue.number c.in-Some.region),
)

pub settle-requires-clause-parts : goal.settle-requires-clause-parts
settle-requires-clause-parts g c =
    (popped_full g.A.FieldValue.number c.loop-region.parts.items c.pop.new.self.items c.in-Some.region c.in-Some.ensures.items c.loop-region.invariant.parts).0

pub settle-requires-clause-region : goal.settle-requires-clause-region
settle-requires-clause-region g c =
    (popped_full g.A.FieldValue.number c.loop-region.parts.items c.pop.new.self.items c.in-Some.region c.in-Some.ensures.items c.loop-region.invariant.parts).1

pub returns-then-kept-clause-parts : goal.returns-then-kept-clause-parts
returns-then-kept-clause-parts g c =
    let kept = rw c.if-kept.true at c.in_ok-kept.ensures in
    rw kept.0 (popped_full g.A.FieldValue.number c.loop-region.parts.items c.pop.new.self.items c.in-Some.region c.in-Some.ensures.items c.loop-region.invariant.parts).0

pub returns-then-kept-clause-rest : goal.returns-then-kept-clause-rest
returns-then-kept-clause-rest g c =
    let kept = rw c.if-kept.true at c.in_ok-kept.ensures in
    record {
      full = (popped_full g.A.FieldValue.number c.loop-region.parts.items c.pop.new.self.items c.in-Some.region c.in-Some.ensures.items c.loop-region.invariant.parts).1;
      clear = kept.1;
      counts = λ x clear. omega (
        arith,
        ap (held x) kept.0,
        c.loop-region.invariant.counts x clear,
        popped_held g.A.FieldValue.number c.loop-region.parts.items c.pop.new.self.items c.in-Some.region c.in-Some.ensures.items x,
      );
    }

pub returns-then-kept-clause-spent : goal.returns-then-kept-clause-spent
returns-then-kept-clause-spent g c =
    let kept = rw c.if-kept.true at c.in_ok-kept.ensures in
    let holes = boxes_of g.A.FieldValue.number c.args.holes.now in
    omega (
      arith,
      ap (all_cells holes) kept.0,
      c.loop-region.invariant.cells,
      popped_cells g.A.FieldValue.number c.loop-region.parts.items c.pop.new.self.items c.in-Some.region c.in-Some.ensures.items holes,
      cells_some holes 0 (ranges_of g.A.FieldValue.number c.in-Some.region),
    )

pub loop-region-preserved : goal.loop-region-preserved
loop-region-preserved g c =
    let cut = rw c.if-kept.false at c.in_ok-kept.ensures in
    let holes = boxes_of g.A.FieldValue.number c.args.holes.now in
    record {
      parts = cut.0;
      counts = λ x clear. omega (
        arith,
        cut.1 x clear,
        c.loop-region.invariant.counts x clear,
        popped_held g.A.FieldValue.number c.loop-region.parts.items c.pop.new.self.items c.in-Some.region c.in-Some.ensures.items x,
      );
      cells = omega (
        arith,
        cut.2,
        c.loop-region.invariant.cells,
        popped_cells g.A.FieldValue.number c.loop-region.parts.items c.pop.new.self.items c.in-Some.region c.in-Some.ensures.items holes,
      );
      budget = omega arith;
    }
