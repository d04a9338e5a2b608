use Rattle.std.proofs.Common.{◌+◌, ◌≤◌, length}
use Rattle.cidr_rules.specs.Parts.{all_cells, boxes_of}
use Rattle.cidr_rules.proofs.Telling.{IsWalk}
use Rattle.cidr_rules.proofs.search.rests.Given as goal

-- what was told and what is in the parts are the first parts, and each part that was looked at has cost a cell
abbrev pub invariant-loop-out : goal.invariant-loop-out
invariant-loop-out g l = record {
  walk : IsWalk (boxes_of g.A.FieldValue.number l.holes.items) (boxes_of g.A.FieldValue.number l.initial.parts.items)
      (boxes_of g.A.FieldValue.number l.parts.items) (boxes_of g.A.FieldValue.number l.out.items);
  cells : all_cells (boxes_of g.A.FieldValue.number l.holes.items) (boxes_of g.A.FieldValue.number l.parts.items) + l.initial.budget
      ≤ all_cells (boxes_of g.A.FieldValue.number l.holes.items) (boxes_of g.A.FieldValue.number l.initial.parts.items) + l.budget;
  few : length l.out.items + l.budget ≤ l.initial.budget;
}

-- each round takes one from the budget
abbrev pub decreases-loop-out : goal.decreases-loop-out
decreases-loop-out g l = l.budget
