-- That the addresses of either family are all lists of bits of their width, which the trait `WholeFamily` cites.
use Rattle.std.specs.Prelude.{◌≡◌, Bool, List, length, refl}
use Rattle.cidr.specs.either.IpAddress.{address_family, plain_bits}
use Rattle.cidr.specs.either.IpNetwork.{network_family}
use Rattle.cidr.specs.model.Network.{width_of}
use Rattle.cidr.specs.declared.addr.ip.IpAddr.{IpAddr}
use Rattle.cidr.specs.declared.addr.ip.IpAddr.TheVariants as address
use Rattle.cidr.specs.declared.cidr.combined.IpCidr.{IpCidr}
use Rattle.cidr.specs.declared.cidr.combined.IpCidr.TheVariants.{V4, V6}

pub ip_addresses : (network : IpCidr) (bits : List Bool) → length bits ≡ width_of (network_family network)
    → (a : IpAddr) × (address_family a ≡ network_family network) × (plain_bits a ≡ bits)
ip_addresses (V4 network) bits size = (address.V4 bits, refl, refl)
ip_addresses (V6 network) bits size = (address.V6 bits, refl, refl)
