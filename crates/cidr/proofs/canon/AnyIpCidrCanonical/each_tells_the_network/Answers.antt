-- Each of the four tells the network, or `Any`.
use Rattle.cidr.proofs.Agreeing.{any_network_tells}
use Rattle.cidr.proofs.canon.AnyIpCidrCanonical.each_tells_the_network.Goals as goal

pub returns-in-Any-clause-tells : goal.returns-in-Any-clause-tells
returns-in-Any-clause-tells c = any_network_tells _ c.equal_networks_or_any_are_the_same.ensures.cmp

pub returns-in-V4-clause-tells : goal.returns-in-V4-clause-tells
returns-in-V4-clause-tells c = any_network_tells _ c.equal_networks_or_any_are_the_same.ensures.cmp

pub returns-in-V6-clause-tells : goal.returns-in-V6-clause-tells
returns-in-V6-clause-tells c = any_network_tells _ c.equal_networks_or_any_are_the_same.ensures.cmp
