-- Networks of one family.
use Rattle.std.proofs.Common.{◌≡◌, ap₂, ◌≤◌, lit≤, Bool, List}
use Rattle.cidr.specs.either.IpNetwork.{network_family, network_prefix}
use Rattle.cidr.specs.declared.cidr.combined.IpCidr.{IpCidr}
use Rattle.cidr.specs.declared.cidr.combined.IpCidr.TheVariants.{V4, V6}
use Rattle.cidr.specs.declared.family.Family.{Family}
use Rattle.cidr.specs.declared.family.Family.TheVariants.{Ipv4, Ipv6}
use Rattle.cidr.specs.model.Network.{width_of}
use Rattle.netset_commands.specs.Networks.{ip_of}

-- the family and the bits tell a network of either
pub ip_is : (network : IpCidr) (family : Family) (p : List Bool) → network_family network ≡ family → network_prefix network ≡ p → network ≡ ip_of family p
ip_is (V4 q) family p of is = ap₂ ip_of of is
ip_is (V6 q) family p of is = ap₂ ip_of of is

-- the bits of an address are few
pub narrow : (family : Family) → width_of family ≤ 129
narrow Ipv4 = lit≤ tt
narrow Ipv6 = lit≤ tt
