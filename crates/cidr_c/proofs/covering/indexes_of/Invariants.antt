use Rattle.std.proofs.Common.{◌↔◌, ◌<◌, ℕ, take}
use Rattle.std.specs.List.{Contains}
use Rattle.std.specs.List.Sorted.{IsStrictlyIncreasing}
use Rattle.cidr.specs.either.IpNetwork.{any_bits}
use Rattle.cidr_c.specs.calls.Batches.{AreNetworkValues}
use Rattle.cidr_c.specs.calls.Lookups.{IsRelatedAt}
use Rattle.cidr_c.proofs.covering.indexes_of.Given as goal

-- the networks so far are networks, and the indexes are those of them that are sought
abbrev pub invariant-loop-i : goal.invariant-loop-i
invariant-loop-i g l = record {
  networks : AreNetworkValues (take l.i l.networks);
  indexes : (j : ℕ) → Contains l.indexes.items j ↔ ((j < l.i) × IsRelatedAt g.R.Relation.Holds l.networks (any_bits l.asked) j);
  ascending : IsStrictlyIncreasing l.indexes.items;
}
