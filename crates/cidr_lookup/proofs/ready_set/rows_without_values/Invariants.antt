use Rattle.std.proofs.Common.{◌≡◌, map, take}
use Rattle.cidr_lookup.proofs.ready_set.rows_without_values.Given as goal

-- a row of each of the networks so far
abbrev pub invariant-loop-network : goal.invariant-loop-network
invariant-loop-network g l = l.rows.items ≡ map (λ (network : g.row.C.Denot). (network, tt)) (take l.network-index l.networks)
