-- An octet of a short text, after its plus.
use Rattle.cidr.proofs.LooseReading.{takes_length}
use Rattle.cidr.proofs.parsers.short.ShortPartPart.take.Goals as goal

pub returns : goal.returns
returns c = takes_length _ _ _ c.after_plus.ensures c.take_number.ensures
