use Rattle.cidr_ext.proofs.InsideIpv6.{mapped_made}
use Rattle.cidr_ext.proofs.inside_ipv6.Ipv4AddrIpv4AddrExt.to_ipv6_mapped.Goals as goal

pub returns : goal.returns
returns c = mapped_made c.args.self.now c.to_bits.result c.from.result c.to_bits.ensures.width c.to_bits.ensures.value c.from.ensures c.from_bits.result c.from_bits.ensures
