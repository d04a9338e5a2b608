use Rattle.cidr_sets.proofs.Free.{IsBestSoFar}
use Rattle.cidr_sets.proofs.set.NetworkSet.best_free.Given as goal

-- the best of the networks so far
abbrev pub invariant-loop-network : goal.invariant-loop-network
invariant-loop-network g l = IsBestSoFar g.C.PoolNetwork.IsNetwork l.len g.C.BitString.bits l.network-items g.C.PoolNetwork.addresses
    l.network-index l.best
