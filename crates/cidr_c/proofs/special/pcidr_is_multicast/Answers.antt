use Rattle.cidr.specs.either.IpNetwork.{network_family, network_prefix}
use Rattle.cidr.specs.declared.cidr.combined.IpCidr.{IpCidr}
use Rattle.cidr_c.proofs.Sought.{answered}
use Rattle.cidr_c.specs.model.Values.{IsIpNetworkValue, ip_network_in}
use Rattle.cidr.specs.model.Network.{BeginsWith}
use Rattle.cidr_ext.specs.model.Special.{multicast_of}
use Rattle.cidr_c.proofs.special.pcidr_is_multicast.Goals as goal

pub returns-in-Some : goal.returns-in-Some
returns-in-Some c =
    answered (IsIpNetworkValue c.args.network.now) (λ (n : IpCidr). BeginsWith (network_prefix n) (multicast_of (network_family n)))
    c.in-Some.network (ip_network_in c.args.network.now) c.is_multicast.result c.yes_or_no.result c.in-Some.ensures c.is_multicast.ensures c.yes_or_no.ensures
