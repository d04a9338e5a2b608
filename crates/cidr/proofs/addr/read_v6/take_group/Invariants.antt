-- The digits so far write this number.
use Rattle.cidr.proofs.GroupReading.{HasGroup}
use Rattle.std.proofs.Common.{◌≡◌}
use Rattle.cidr.proofs.addr.read_v6.take_group.Given as goal

abbrev pub invariant-loop-byte : goal.invariant-loop-byte
invariant-loop-byte l = (l.count ≡ l.byte-index) × HasGroup l.text l.count l.value
