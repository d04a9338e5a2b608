-- Each of the four tells the network of either family.
use Rattle.cidr.proofs.Agreeing.{ip_network_tells}
use Rattle.cidr.proofs.canon.IpCidrCanonical.each_tells_the_network.Goals as goal

pub returns-clause-tells : goal.returns-clause-tells
returns-clause-tells c = ip_network_tells _ c.equal_networks_are_the_same.ensures.cmp
