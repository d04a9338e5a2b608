use Rattle.std.proofs.Common.{◌+◌, ◌-◌, ◌*◌, ◌<◌, ◌≤◌, length, map}
use Rattle.cidr_lookup.specs.Keys.{key_networks}
use Rattle.cidr_lookup.specs.Passing.{AreSoFar, IsEdge, IsPassing}
use Rattle.cidr_lookup.proofs.ranges.written.Given as goal

abbrev pub invariant-loop-pass : goal.invariant-loop-pass
invariant-loop-pass g l = record {
  passing : IsPassing g.A.Address.width (key_networks g.A.Address.value l.keys) l.pass.index l.pass.start l.pass.lasts l.pass.ends l.pass.depth;
  so_far : AreSoFar g.A.Address.width (key_networks g.A.Address.value l.keys) (map g.A.Address.value l.starts) l.answers l.count l.pass.start;
  edge : 0 < l.pass.start → IsEdge g.A.Address.width (key_networks g.A.Address.value l.keys) l.pass.start;
  room : l.count + l.pass.depth ≤ 2 * l.pass.index + 1;
}

abbrev pub decreases-loop-pass : goal.decreases-loop-pass
decreases-loop-pass g l = 2 * (length l.keys - l.pass.index) + l.pass.depth
