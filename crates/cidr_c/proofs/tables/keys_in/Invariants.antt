use Rattle.std.proofs.Common.{◌≡◌, map, take}
use Rattle.cidr_lookup.specs.Keys.{key_networks}
use Rattle.cidr_c.proofs.tables.keys_in.Given as goal

abbrev pub invariant-loop-value : goal.invariant-loop-value
invariant-loop-value g l = key_networks g.A.Address.value l.keys.items ≡ map g.A.FromValue.pair (take l.value-index l.values)
