use Rattle.std.proofs.Common.{refl}
use Rattle.cidr_ext.proofs.InsideIpv6.{mapped_is_made, mapped_network}
use Rattle.cidr_ext.proofs.inside_ipv6.Ipv4CidrIpv4CidrExt.to_ipv6_mapped.Goals as goal

pub unwrap-requires : goal.unwrap-requires
unwrap-requires c =
    mapped_is_made c.args.self.now c.first_address.result c.to_ipv6_mapped-first.result c.network_length.result _ c.new.result c.network_length.ensures.value
    c.network_length.ensures.fits refl c.first_address.ensures c.to_ipv6_mapped-first.ensures c.new.ensures.value

pub returns : goal.returns
returns c =
    mapped_network c.args.self.now c.first_address.result c.to_ipv6_mapped-first.result c.network_length.result _ c.new.result c.network_length.ensures.value
    c.network_length.ensures.fits refl c.first_address.ensures c.to_ipv6_mapped-first.ensures c.new.ensures.value c.unwrap.result c.unwrap.ensures
