use Rattle.std.proofs.Common.{◌≤◌}
use Rattle.cidr_routes.specs.Links.{NoneCovers}
use Rattle.cidr_routes.proofs.links.last_covering.Given as goal

-- none of those behind contains the network
abbrev pub invariant-loop-left : goal.invariant-loop-left
invariant-loop-left g l = record {
  within : l.left ≤ l.end;
  none : NoneCovers g.C.BitString.bits l.payloads (g.C.BitString.bits l.network) l.left l.end;
}

abbrev pub decreases-loop-left : goal.decreases-loop-left
decreases-loop-left g l = l.left
