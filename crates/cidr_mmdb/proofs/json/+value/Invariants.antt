use Rattle.std.proofs.Common.{length, ◌≡◌, ◌+◌, ◌*◌, ◌≤◌, true}
use Rattle.cidr_mmdb.specs.Json.{behind, item_at, json_at, listed}
use Rattle.cidr_mmdb.proofs.json.+value.Given as goal

abbrev pub decreases-value : goal.decreases-value
decreases-value l = 6 * l.depth

abbrev pub decreases-text_with : goal.decreases-text_with
decreases-text_with l = 6 * l.depth + 5

abbrev pub decreases-collection : goal.decreases-collection
decreases-collection l = 6 * l.depth + 4

abbrev pub decreases-items : goal.decreases-items
decreases-items l = 6 * l.depth + 3

abbrev pub decreases-item : goal.decreases-item
decreases-item l = 6 * l.depth + 2

abbrev pub decreases-member : goal.decreases-member
decreases-member l = 6 * l.depth + 1

-- what is written with what is left is all
abbrev pub invariant-items-loop-left : goal.invariant-items-loop-left
invariant-items-loop-left l = record {
  most : length l.fn.out.items ≤ l.limit → length l.out.items ≤ l.limit;
  read : behind l.out.items (listed (item_at l.section (json_at l.section l.depth) l.named) l.first l.left l.end)
      ≡ behind l.fn.out.items (listed (item_at l.section (json_at l.section l.depth) l.named) true l.count l.at);
}

abbrev pub decreases-items-loop-left : goal.decreases-items-loop-left
decreases-items-loop-left l = l.left
