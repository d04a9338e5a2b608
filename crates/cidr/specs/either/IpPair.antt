-- Pairs of either family.
use Rattle.std.specs.Prelude.{ℕ, List}
use Rattle.cidr.specs.model.Host.{Host}
use Rattle.cidr.specs.model.Network.{width_of}
use Rattle.cidr.specs.model.Pair.{Pair, IsPair, network_of_pair}
use Rattle.cidr.specs.texts.Printed.{pair_text}
use Rattle.cidr.specs.declared.cidr.combined.IpCidr.{IpCidr}
use Rattle.cidr.specs.declared.cidr.combined.IpCidr.TheVariants as network
use Rattle.cidr.specs.declared.family.Family.{Family}
use Rattle.cidr.specs.declared.family.Family.TheVariants.{Ipv4, Ipv6}
use Rattle.cidr.specs.declared.inet.combined.IpInet.{IpInet}
use Rattle.cidr.specs.declared.inet.combined.IpInet.TheVariants as host
use Rattle.cidr.specs.declared.inet_pair.combined.IpInetPair.{IpInetPair}
use Rattle.cidr.specs.declared.inet_pair.combined.IpInetPair.TheVariants.{V4, V6}

-- the family of a pair
abbrev pub pair_family : IpInetPair → Family
pair_family (V4 p) = Ipv4
pair_family (V6 p) = Ipv6

-- both addresses, without a family bit, and the prefix length
abbrev pub pair_parts : IpInetPair → Pair
pair_parts (V4 p) = p
pair_parts (V6 p) = p

-- a pair of the width of its family: what every `IpInetPair` is
abbrev pub IsIpPair : IpInetPair → Type 0
IsIpPair pair = IsPair (width_of (pair_family pair)) (pair_parts pair)

-- one host of a pair
abbrev pub pair_host : (Pair → Host) → IpInetPair → IpInet
pair_host end (V4 p) = host.V4 (end p)
pair_host end (V6 p) = host.V6 (end p)

-- the network that both addresses are in
abbrev pub pair_network : IpInetPair → IpCidr
pair_network (V4 p) = network.V4 (network_of_pair p)
pair_network (V6 p) = network.V6 (network_of_pair p)

-- what is printed of a pair: both hosts in parentheses, each in this form, with or without a full length
abbrev pub ip_pair_text : (Family → Host → List ℕ) → IpInetPair → List ℕ
ip_pair_text form (V4 p) = pair_text (form Ipv4) p
ip_pair_text form (V6 p) = pair_text (form Ipv6) p
