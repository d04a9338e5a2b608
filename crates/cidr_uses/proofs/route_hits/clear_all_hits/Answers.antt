use Rattle.std.proofs.Common.{sym, ◌∙◌}
use Rattle.std.specs.Map.{values_of}
use Rattle.cidr_uses.proofs.RouteHits.{zeros_set, zeros_past}
use Rattle.cidr_uses.proofs.route_hits.clear_all_hits.Goals as goal
use Rattle.cidr_uses.proofs.route_hits.clear_all_hits.Goals.{in-Some, in_default}

pub loop-index-preserved : goal.loop-index-preserved
loop-index-preserved g c =
    let hits = values_of c.loop-index.routes.rows in
    let (keys, zeros) = c.loop-index.invariant in
    elim c.match-value_mut.branch [
      | in-Some w ↦
          let written = rw w.in-Some.is at (c.value_mut.follows.holds 0) in
          rw w.routes-is (written.keys ∙ keys, rw written.values (zeros_set hits c.loop-index.index zeros))
      | in_default w ↦
          let none = rw w.in_default.is at c.value_mut.ensures.value in
          rw (w.routes-is, c.value_mut.follows.holds-at-none) (keys, zeros_past hits c.loop-index.index (sym none) zeros)
    ]
