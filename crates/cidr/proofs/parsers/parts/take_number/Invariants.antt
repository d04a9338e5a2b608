-- The digits so far write this number.
use Rattle.std.proofs.Common.{◌≡◌, ◌+◌}
use Rattle.cidr.proofs.NumberReading.{HasDigits}
use Rattle.cidr.proofs.parsers.parts.take_number.Given as goal

abbrev pub invariant-loop-byte : goal.invariant-loop-byte
invariant-loop-byte l = (l.count ≡ l.byte-index) × HasDigits l.radix (l.most + 1) l.text l.count l.value
