-- A host is an address in its network: an address and the prefix length of the network (RFC 4632, 3.1). w is the width
-- of addresses.
use Rattle.std.specs.Prelude.{◌≡◌, ℕ, ◌+◌, ◌-◌, ◌%◌, ◌^◌, ◌<◌, ◌≤◌, Bool, List, ◌++◌, length, take, drop, ◌==◌, ◌&&◌, Option, Some, None, Result, Ok, Err, nat_lt, if◌then◌else◌}
use Rattle.std.specs.declared.cmp.Ordering.{Ordering}
use Rattle.std.specs.Ordering.{nat_cmp, ordering_then}
use Rattle.std.specs.Hash as fed
use Rattle.cidr.specs.model.Bits.{bits, number, bit_cmp, bit_eq}
use Rattle.cidr.specs.model.Network.{width_of, first_of, last_of, too_long, address_hash}
use Rattle.cidr.specs.declared.family.Family.{Family}
use Rattle.cidr.specs.model.Errors.{LengthError}

-- an address, by its bits, and a prefix length
pub record Host : Type 0 where
  pub address : List Bool
  pub len : ℕ

-- the host of an address and a prefix length
abbrev pub host_of : List Bool → ℕ → Host
host_of a n = record { address = a; len = n }

-- the address has the width, and the length is within it: what every host of a type is
abbrev pub IsHost : ℕ → Host → Type 0
IsHost w host = (length host.address ≡ w) × (host.len ≤ w)

-- the order of hosts: by address, then by prefix length
abbrev pub host_cmp : Host → Host → Ordering
host_cmp a b = ordering_then (bit_cmp a.address b.address) (nat_cmp a.len b.len)

-- equality of hosts: the same address and the same prefix length
abbrev pub host_eq : Host → Host → Bool
host_eq a b = bit_eq a.address b.address && (a.len == b.len)

-- what is fed to a hasher for a host: its address and its prefix length
abbrev pub host_hash : Family → Host → List (List ℕ)
host_hash family host = address_hash family host.address ++ fed.u8 host.len

-- the network of a host: the first bits of its address, as many as the prefix length says
abbrev pub network_of : Host → List Bool
network_of host = take host.len host.address

-- the host at the first address of a network, with its prefix length
abbrev pub first_host : ℕ → List Bool → Host
first_host w network = record { address = first_of w network; len = length network }

-- the host at the last address of a network, with its prefix length
abbrev pub last_host : ℕ → List Bool → Host
last_host w network = record { address = last_of w network; len = length network }

-- the host of an address and the full prefix length
abbrev pub lone_host : ℕ → List Bool → Host
lone_host w a = record { address = a; len = w }

-- the host of an address and a prefix length, or an error where the length is above the width (the crate `cidr`, `new`)
abbrev pub host_from : Family → List Bool → ℕ → Result Host LengthError
host_from family a n = if nat_lt (width_of family) n then Err (too_long n family) else Ok (record { address = a; len = n })

-- h, the number that the bits after the prefix are: which address of the network it is, counted from 0
abbrev pub host_part : Host → ℕ
host_part host = number (drop host.len host.address)

-- H, the number of addresses of the network of a host
abbrev pub host_count : ℕ → Host → ℕ
host_count w host = 2 ^ (w - host.len)

-- the host of the same network whose host part is this number
abbrev pub with_host_part : ℕ → Host → ℕ → Host
with_host_part w host part = record { address = network_of host ++ bits (w - host.len) part; len = host.len }

-- s addresses up: the host part becomes (h + s) mod H, so that the host stays in its network (the crate `cidr`)
abbrev pub stepped_up : ℕ → Host → ℕ → Host
stepped_up w host s = with_host_part w host ((host_part host + s) % host_count w host)

-- s addresses up leave the network and wrap: h + s is at least H
abbrev pub WrapsUp : ℕ → Host → ℕ → Type 0
WrapsUp w host s = host_count w host ≤ host_part host + s

-- s addresses down: the host part becomes (h - s) mod H
abbrev pub stepped_down : ℕ → Host → ℕ → Host
stepped_down w host s = with_host_part w host ((host_part host + (host_count w host - s % host_count w host)) % host_count w host)

-- s addresses down leave the network and wrap: s is above h
abbrev pub WrapsDown : Host → ℕ → Type 0
WrapsDown host s = host_part host < s

-- the host one address up, or none at the last address of its network
abbrev pub next_of : ℕ → Host → Option Host
next_of w host = if bit_eq host.address (last_of w (network_of host)) then None else Some (stepped_up w host 1)

-- the host one address down, or none at the first address of its network
abbrev pub previous_of : ℕ → Host → Option Host
previous_of w host = if bit_eq host.address (first_of w (network_of host)) then None else Some (stepped_down w host 1)
