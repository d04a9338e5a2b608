-- Addresses of a network: its host mask, an address by its number, and those that hosts may have. w is the width of
-- addresses.
use Rattle.std.specs.Prelude.{◌≡◌, ℕ, ◌-◌, ◌^◌, ◌<◌, ◌≤◌, Bool, List, ◌++◌, length, nat_lt, if◌then◌else◌}
use Rattle.cidr.specs.model.Bits.{bits}
use Rattle.cidr.specs.model.Host.{Host}
use Rattle.cidr.specs.model.Network.{zeros, ones}
use Rattle.cidr.specs.model.Walk.{network_hosts, without}
use Rattle.cidr.specs.declared.family.Family.{Family}
use Rattle.cidr.specs.declared.family.Family.TheVariants.{Ipv4, Ipv6}

-- the host mask of a network, the inverse of its mask: zeros where it has bits, and then ones
abbrev pub host_mask_of : ℕ → List Bool → List Bool
host_mask_of w network = zeros (length network) ++ ones (w - length network)

-- the mask of prefix length n: as many ones, and then zeros (RFC 4632, 3.1)
abbrev pub IsMaskOf : ℕ → ℕ → List Bool → Type 0
IsMaskOf w n a = (n ≤ w) × (a ≡ ones n ++ zeros (w - n))

-- the host mask of prefix length n: as many zeros, and then ones
abbrev pub IsHostMaskOf : ℕ → ℕ → List Bool → Type 0
IsHostMaskOf w n a = (n ≤ w) × (a ≡ zeros n ++ ones (w - n))

-- the address at index i of a network, from 0 on: behind the bits of the network stands i
abbrev pub IsAddressAt : ℕ → List Bool → ℕ → List Bool → Type 0
IsAddressAt w network i a = (i < 2 ^ (w - length network)) × (a ≡ network ++ bits (w - length network) i)

-- what hosts may have of a network: in IPv4 all but its first and its last address, which are the network and the
-- broadcast address (RFC 1122, 3.2.1.3), but of /31 both (RFC 3021) and of /32 the one; in IPv6 all
abbrev pub usable_of : Family → List Bool → List (Family × Host)
usable_of Ipv4 network = if nat_lt (length network) 31 then without (network_hosts Ipv4 network) 1 1 else network_hosts Ipv4 network
usable_of Ipv6 network = network_hosts Ipv6 network
