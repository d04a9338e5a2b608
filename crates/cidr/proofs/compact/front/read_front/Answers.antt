-- An IPv6 tag with too few octets after it.
use Rattle.std.proofs.Common.{inr, arith}
use Rattle.cidr.specs.declared.family.Family.TheVariants.{Ipv6}
use Rattle.cidr.proofs.CompactOctets.{ipv6_lacks}
use Rattle.cidr.proofs.compact.front.read_front.Goals as goal

pub returns-in-None-ipv6_first : goal.returns-in-None-ipv6_first
returns-in-None-ipv6_first c =
    inr (Ipv6, ipv6_lacks c.args.bytes.now c.in-len1-up.len_at_least (omega arith) (omega arith) c.in-None-ipv6_first.ensures)
