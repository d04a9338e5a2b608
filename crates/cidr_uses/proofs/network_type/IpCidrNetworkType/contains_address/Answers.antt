-- An address has the bits of the network of it alone.
use Rattle.std.proofs.Common.{subst}
use Rattle.cidr.specs.either.IpNetwork.{IsLone}
use Rattle.cidr_uses.proofs.Headlines.{contains_address}
use Rattle.cidr_uses.proofs.network_type.IpCidrNetworkType.contains_address.Goals as goal

pub returns : goal.returns
returns c = contains_address c.args.address.now _ c.contains.result (subst IsLone c.new_host-host.ensures.value c.new_host-host.ensures.full) c.contains.ensures
