-- A string is a network exactly if parsing it returns one.
use Rattle.cidr_uses.proofs.Readings.{is_it}
use Rattle.cidr_uses.proofs.reading.is_network.Goals as goal

pub returns : goal.returns
returns c = rw c.is_ok.ensures.value (is_it c.args.s.now c.parse.result c.parse.ensures.value)
