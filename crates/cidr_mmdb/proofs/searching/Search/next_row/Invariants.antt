use Rattle.std.proofs.Common.{◌≤◌, ◌<◌, ◌^◌, ◌+◌, ◌-◌}
use Rattle.cidr_mmdb.specs.LookUps.{looked_in}
use Rattle.cidr_mmdb.specs.Rows.{IsPassed, begin_behind}
use Rattle.cidr_mmdb.proofs.searching.Search.next_row.Given as goal

-- nothing is found up to here
abbrev pub invariant-loop-left : goal.invariant-loop-left
invariant-loop-left l = record {
  few : l.left ≤ l.most;
  inside : l.from < 2 ^ l.self.width;
  far : begin_behind l.fn.after + (l.most - l.left) ≤ l.from;
  passed : IsPassed (looked_in l.self.tree.record_size l.self.tree.bytes.now l.self.tree.node_count l.self.width l.self.size) l.self.width (begin_behind l.fn.after) l.from;
}

abbrev pub decreases-loop-left : goal.decreases-loop-left
decreases-loop-left l = l.left
