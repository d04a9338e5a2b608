use Rattle.std.proofs.Common.{◌≡◌, ◌++◌, take}
use Rattle.std.specs.List.{flat_map}
use Rattle.cidr_mmdb.specs.Json.{spelling}
use Rattle.cidr_mmdb.proofs.leaf_texts.push_spelled.Given as goal

abbrev pub invariant-loop-byte : goal.invariant-loop-byte
invariant-loop-byte l = l.out.items ≡ l.fn.out.items ++ flat_map spelling (take l.byte-index l.bytes)
