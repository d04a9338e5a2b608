use Rattle.cidr.specs.either.IpAddress.{ip_address_bits}
use Rattle.cidr.specs.either.IpHost.{host_network}
use Rattle.cidr.specs.either.IpNetwork.{network_bits}
use Rattle.netset_commands.proofs.AddressLines.{same_answer}
use Rattle.netset_commands.proofs.commands.which.has_address.Goals as goal

pub returns : goal.returns
returns c =
    same_answer c.contains.result (ip_address_bits c.args.address.now) (network_bits (host_network c.args.entry.now.host)) (rw c.network.ensures at c.contains.ensures)
