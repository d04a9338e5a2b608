-- The first octets so far, up to the count, are appended.
use Rattle.std.proofs.Common.{◌≡◌, ◌++◌, take}
use Rattle.cidr.proofs.prefix_bytes.octets.push_first.Given as goal

abbrev pub invariant-loop-i : goal.invariant-loop-i
invariant-loop-i l = l.bytes.items ≡ l.initial.bytes.items ++ take l.count (take l.i l.octets)
