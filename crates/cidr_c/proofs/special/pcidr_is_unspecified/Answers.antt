use Rattle.std.proofs.Common.{◌⊎◌}
use Rattle.cidr.specs.either.IpNetwork.{network_family, network_prefix}
use Rattle.cidr.specs.declared.cidr.combined.IpCidr.{IpCidr}
use Rattle.cidr_c.proofs.Sought.{answered}
use Rattle.cidr_c.specs.model.Values.{IsIpNetworkValue, ip_network_in}
use Rattle.cidr_ext.specs.model.Special.{HasPurpose}
use Rattle.cidr_ext.specs.declared.registry.Purpose.TheVariants as purpose
use Rattle.cidr_c.proofs.special.pcidr_is_unspecified.Goals as goal

pub returns-in-Some : goal.returns-in-Some
returns-in-Some c =
    answered (IsIpNetworkValue c.args.network.now) (λ (n : IpCidr). HasPurpose purpose.ThisHost (network_family n) (network_prefix n) ⊎ HasPurpose purpose.Unspecified (network_family n) (network_prefix n))
    c.in-Some.network (ip_network_in c.args.network.now) c.is_unspecified.result c.yes_or_no.result c.in-Some.ensures c.is_unspecified.ensures c.yes_or_no.ensures
