-- Networks of one family as networks of either.
use Rattle.std.specs.Prelude.{Bool, List}
use Rattle.cidr.specs.declared.cidr.combined.IpCidr.{IpCidr}
use Rattle.cidr.specs.declared.cidr.combined.IpCidr.TheVariants.{V4, V6}
use Rattle.cidr.specs.declared.family.Family.{Family}
use Rattle.cidr.specs.declared.family.Family.TheVariants.{Ipv4, Ipv6}

-- the network of a family by its bits
abbrev pub ip_of : Family → List Bool → IpCidr
ip_of Ipv4 p = V4 p
ip_of Ipv6 p = V6 p
