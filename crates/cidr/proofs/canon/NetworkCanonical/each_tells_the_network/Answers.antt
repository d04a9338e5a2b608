-- Each of the four tells the network.
use Rattle.cidr.proofs.Agreeing.{network_tells}
use Rattle.cidr.proofs.canon.NetworkCanonical.each_tells_the_network.Goals as goal

pub returns-clause-tells : goal.returns-clause-tells
returns-clause-tells g c = network_tells g.A.AddressBits.FAMILY
