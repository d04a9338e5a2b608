use Rattle.std.proofs.Common.{◌≡◌, ◌≤◌}
use Rattle.cidr_mmdb.specs.Trees.{record_at, walk}
use Rattle.cidr_mmdb.proofs.trees.Tree.walk.Given as goal

-- the walk from here on is the walk
abbrev pub invariant-loop-left : goal.invariant-loop-left
invariant-loop-left l = record {
  few : l.left ≤ l.width;
  same : walk (record_at l.self.record_size l.self.bytes.now) l.self.node_count l.address l.record l.left
      ≡ walk (record_at l.self.record_size l.self.bytes.now) l.self.node_count l.address l.from l.width;
}

abbrev pub decreases-loop-left : goal.decreases-loop-left
decreases-loop-left l = l.left
