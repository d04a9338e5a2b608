-- The networks of the search tree in order, as look-ups give them.
use Rattle.std.specs.Prelude.{◌≡◌, ℕ, ◌+◌, ◌*◌, ◌/◌, ◌^◌, ◌≤◌, ◌<◌, take, Option, Some, None, ◌==◌, ◌||◌, ◌&&◌, if◌then◌else◌, nat_lt}
use Rattle.cidr.specs.either.IpNetwork.{network_family, network_prefix}
use Rattle.cidr.specs.model.Bits.{bits, number}
use Rattle.cidr.specs.model.Network.{last_of, width_of}
use Rattle.cidr.specs.declared.cidr.combined.IpCidr.{IpCidr}
use Rattle.cidr.specs.declared.family.Family.{Family}
use Rattle.cidr.specs.declared.family.Family.TheVariants.{Ipv4, Ipv6}
use Rattle.cidr_mmdb.specs.declared.found.Found.{Found}
use Rattle.cidr_mmdb.specs.declared.found.Found.TheVariants.{Nothing}
use Rattle.cidr_mmdb.specs.declared.rows.Row.{Row}

-- here `looked w n` is what a look-up finds for the address of w bits with the number n, and how many of its bits were read; and the
-- addresses of the tree have `width` bits, in order of their numbers

-- the number of the first address behind a network, or of the first of all; the addresses below ::/96 have the numbers of those of IPv4
abbrev pub begin_behind : Option IpCidr → ℕ
begin_behind None = 0
begin_behind (Some network) = number (last_of (width_of (network_family network)) (network_prefix network)) + 1

-- for no address of the tree from one number up to another is anything found
abbrev pub IsPassed : (ℕ → ℕ → Found × ℕ) → ℕ → ℕ → ℕ → Type 0
IsPassed looked width from to = (n : ℕ) → from ≤ n → n < to → (looked width n).0 ≡ Nothing

-- of which family the network is that an address of the tree is in: of IPv4 in a tree of IPv4, and below ::/96
abbrev pub family_at : (ℕ → ℕ → Found × ℕ) → ℕ → ℕ → Family
family_at looked width n =
    if (width == 32) || ((nat_lt n (2 ^ 32)) && (nat_lt 95 (looked width n).1)) then Ipv4 else Ipv6

-- the network that an address of the tree is in, and what is found for it, as a look-up in the family of the network gives both
pub record IsRowAt (looked : ℕ → ℕ → Found × ℕ) (width n : ℕ) (row : Row) : Type 0 where
  pub family : network_family row.network ≡ family_at looked width n
  pub network : network_prefix row.network ≡ take (looked (width_of (family_at looked width n)) n).1 (bits (width_of (family_at looked width n)) n)
  pub found : row.found ≡ (looked (width_of (family_at looked width n)) n).0

-- the row of the first address from a number on for which anything is found; or a row with nothing, behind at least so many addresses
pub record IsNextRow (looked : ℕ → ℕ → Found × ℕ) (width from most : ℕ) (row : Row) : Type 0 where
  pub at : ℕ
  pub behind : from ≤ at
  pub inside : at < 2 ^ width
  pub passed : IsPassed looked width from at
  pub row_is : IsRowAt looked width at row
  pub nothing : row.found ≡ Nothing → from + most ≤ at

-- ---- what private functions promise each other
-- the number of the first address behind a network by its last so many bits and the number of one of its addresses
abbrev pub number_behind : ℕ → ℕ → ℕ
number_behind n left = (n / 2 ^ left + 1) * 2 ^ left
