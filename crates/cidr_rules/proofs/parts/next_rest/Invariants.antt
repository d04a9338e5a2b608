use Rattle.std.proofs.Common.{◌≡◌, ◌+◌, ◌≤◌, ℕ, false, List}
use Rattle.cidr_rules.specs.Parts.{AreAllFull, all_cells, boxes_of, held, is_covered}
use Rattle.cidr_rules.proofs.parts.next_rest.Given as goal

-- the parts hold what the holes leave as often as at first, and each part that was looked at has cost a cell
abbrev pub invariant-loop-region : goal.invariant-loop-region
invariant-loop-region g l = record {
  parts : AreAllFull (boxes_of g.A.FieldValue.number l.parts.items);
  counts : (x : List ℕ) → is_covered (boxes_of g.A.FieldValue.number l.holes) x ≡ false
      → held x (boxes_of g.A.FieldValue.number l.parts.items) ≡ held x (boxes_of g.A.FieldValue.number l.initial.parts.items);
  cells : all_cells (boxes_of g.A.FieldValue.number l.holes) (boxes_of g.A.FieldValue.number l.parts.items) + l.initial.budget
      ≤ all_cells (boxes_of g.A.FieldValue.number l.holes) (boxes_of g.A.FieldValue.number l.initial.parts.items) + l.budget;
  budget : l.budget ≤ l.initial.budget;
}

-- each round takes one from the budget
abbrev pub decreases-loop-region : goal.decreases-loop-region
decreases-loop-region g l = l.budget
