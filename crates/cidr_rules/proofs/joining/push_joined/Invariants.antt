use Rattle.std.proofs.Common.{◌≡◌, ◌+◌, ◌≤◌, ℕ, true, cond, List, length, vec_len}
use Rattle.cidr_rules.specs.Packets.{is_in, ranges_of}
use Rattle.cidr_rules.specs.Regions.{are_full}
use Rattle.cidr_rules.specs.Parts.{AreSeparate, boxes_of, held}
use Rattle.cidr_rules.proofs.joining.push_joined.Given as goal

-- the regions and the whole have the packets of the old ones and of the region
abbrev pub invariant-loop-i : goal.invariant-loop-i
invariant-loop-i g l = record {
  separate : AreSeparate (boxes_of g.A.FieldValue.number l.regions.items);
  full : are_full (ranges_of g.A.FieldValue.number l.whole) ≡ true;
  counts : (x : List ℕ) → held x (boxes_of g.A.FieldValue.number l.regions.items) + cond (is_in (ranges_of g.A.FieldValue.number l.whole) x) 1 0
      ≡ held x (boxes_of g.A.FieldValue.number l.initial.regions.items) + cond (is_in (ranges_of g.A.FieldValue.number l.region) x) 1 0;
  few : length l.regions.items ≤ length l.initial.regions.items;
}

-- each round takes a region away
abbrev pub decreases-loop-i : goal.decreases-loop-i
decreases-loop-i g l = vec_len l.regions
