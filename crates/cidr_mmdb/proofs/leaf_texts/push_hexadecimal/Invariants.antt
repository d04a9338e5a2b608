use Rattle.std.proofs.Common.{◌≡◌, ◌++◌, take}
use Rattle.std.specs.List.{flat_map}
use Rattle.cidr_mmdb.specs.Numerals.{digits_of}
use Rattle.cidr_mmdb.proofs.leaf_texts.push_hexadecimal.Given as goal

abbrev pub invariant-loop-byte : goal.invariant-loop-byte
invariant-loop-byte l = l.out.items ≡ l.fn.out.items ++ flat_map (digits_of 16 2) (take l.byte-index l.bytes)
