use Rattle.std.proofs.Common.{◌≡◌, map, take}
use Rattle.std.specs.List.{zip}
use Rattle.cidr_lookup.specs.Keys.{key_networks}
use Rattle.cidr_files.proofs.checking.keys_of.Given as goal

abbrev pub invariant-loop-i : goal.invariant-loop-i
invariant-loop-i g l = key_networks g.W.Address.value l.keys.items ≡ take l.i (zip (map g.W.Address.value l.addresses) l.lengths)
