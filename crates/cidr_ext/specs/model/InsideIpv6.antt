-- IPv4 addresses inside IPv6 addresses: behind bits that say so.
use Rattle.std.specs.Prelude.{◌≡◌, Bool, List, ◌++◌, length, take, drop}
use Rattle.cidr.specs.model.Bits.{bits}
use Rattle.cidr.specs.model.Network.{zeros, ones, BeginsWith}

-- ::ffff:0:0/96, of the IPv4-mapped addresses: 80 zeros and 16 ones (RFC 4291, 2.5.5.2)
abbrev pub mapped_front : List Bool
mapped_front = zeros 80 ++ ones 16

-- 2002::/16, of 6to4 (RFC 3056, 2)
abbrev pub six_to_four_front : List Bool
six_to_four_front = bits 16 0x2002

-- 64:ff9b::/96, the well-known prefix of IPv4/IPv6 translation (RFC 6052, 2.1)
abbrev pub nat64_front : List Bool
nat64_front = bits 32 0x0064_ff9b ++ zeros 64

-- the address begins with these bits, and the 32 bits behind them are the IPv4 address
abbrev pub IsIpv4Behind : List Bool → List Bool → List Bool → Type 0
IsIpv4Behind front a inner = BeginsWith a front × (inner ≡ take 32 (drop (length front) a))
