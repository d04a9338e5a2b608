use Rattle.std.proofs.Common.{◌≡◌, map}
use Rattle.cidr_sets.proofs.Halves.{IsNarrowed}
use Rattle.cidr_sets.proofs.search.index.Given as goal

abbrev pub invariant-loop-left : goal.invariant-loop-left
invariant-loop-left g l = record {
  same : g.P.Probe.keys l.networks ≡ g.P.Probe.keys l.fn.networks;
  narrowed : IsNarrowed (map g.C.BitString.bits (g.P.Probe.keys l.fn.networks)) (g.C.BitString.bits l.network)
      (g.P.Probe.count l.fn.networks) (g.P.Probe.count l.networks) l.low l.left;
}

abbrev pub decreases-loop-left : goal.decreases-loop-left
decreases-loop-left g l = l.left
