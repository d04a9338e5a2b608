-- The digits so far write this number.
use Rattle.cidr.proofs.NumberReading.{HasDigits}
use Rattle.cidr.proofs.text.read.read_digits.Given as goal

abbrev pub invariant-loop-digit : goal.invariant-loop-digit
invariant-loop-digit l = HasDigits 10 256 l.digits l.digit-index l.value
