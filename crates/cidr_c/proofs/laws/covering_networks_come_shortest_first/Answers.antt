use Rattle.cidr.specs.either.IpNetwork.{any_bits}
use Rattle.cidr_c.specs.model.Values.{network_in}
use Rattle.cidr_c.proofs.Related.{shorter_first}
use Rattle.cidr_c.proofs.laws.covering_networks_come_shortest_first.Goals as goal

pub returns : goal.returns
returns c = λ one other asked before first second.
    shorter_first (any_bits (network_in one)) (any_bits (network_in other)) asked before first second
