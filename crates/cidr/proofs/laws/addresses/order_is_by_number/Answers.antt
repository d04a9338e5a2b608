-- Lists of one length are ordered as their numbers.
use Rattle.cidr.specs.laws.BitLaws.{bit_cmp-numbers}
use Rattle.cidr.proofs.laws.addresses.order_is_by_number.Goals as goal

pub returns : goal.returns
returns c = bit_cmp-numbers
