use Rattle.cidr_ext.proofs.InsideIpv6.{nat64_behind}
use Rattle.cidr_ext.proofs.inside_ipv6.Ipv6AddrIpv6AddrExt.to_ipv4_nat64.Goals as goal

pub returns : goal.returns
returns c = nat64_behind c.args.self.now c.ipv4_behind.ensures.width c.ipv4_behind.result c.ipv4_behind.ensures.found
