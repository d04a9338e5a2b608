-- A pair is two addresses and the length of a network that holds both (the crate `cidr`). w is the width of addresses.
use Rattle.std.specs.Prelude.{◌≡◌, ℕ, ◌≤◌, Bool, List, ◌++◌, length, take, ◌==◌, ◌&&◌, Result, Ok, Err, nat_lt, if◌then◌else◌}
use Rattle.std.specs.Hash as fed
use Rattle.cidr.specs.model.Bits.{bit_eq}
use Rattle.cidr.specs.model.Network.{width_of, too_long, address_hash}
use Rattle.cidr.specs.model.Host.{Host}
use Rattle.cidr.specs.declared.family.Family.{Family}
use Rattle.cidr.specs.declared.family.Family.TheVariants.{Ipv4, Ipv6}
use Rattle.cidr.specs.declared.errors.InetTupleError.{InetTupleError}
use Rattle.cidr.specs.declared.errors.InetTupleError.TheVariants as pair_error

-- two addresses, by their bits, and the length of a prefix that they share
pub record Pair : Type 0 where
  pub first : List Bool
  pub second : List Bool
  pub len : ℕ

-- both addresses have the width, the length is within it, and so many first bits are the same
pub record IsPair (w : ℕ) (pair : Pair) : Type 0 where
  pub first_width : length pair.first ≡ w
  pub second_width : length pair.second ≡ w
  pub fits : pair.len ≤ w
  pub shared : take pair.len pair.first ≡ take pair.len pair.second

-- the first address as a host
abbrev pub first_of_pair : Pair → Host
first_of_pair pair = record { address = pair.first; len = pair.len }

-- the second address as a host
abbrev pub second_of_pair : Pair → Host
second_of_pair pair = record { address = pair.second; len = pair.len }

-- the network that both addresses are in
abbrev pub network_of_pair : Pair → List Bool
network_of_pair pair = take pair.len pair.first

-- equality of pairs: the same addresses in the same order, and the same length
abbrev pub pair_eq : Pair → Pair → Bool
pair_eq a b = bit_eq a.first b.first && (bit_eq a.second b.second && (a.len == b.len))

-- what is fed to a hasher for a pair: both addresses and the length
abbrev pub pair_hash : Family → Pair → List (List ℕ)
pair_hash family pair = address_hash family pair.first ++ (address_hash family pair.second ++ fed.u8 pair.len)

-- the pair of two addresses and a length within the width, or an error where their first n bits differ
abbrev pub shared_pair : List Bool → List Bool → ℕ → Result Pair InetTupleError
shared_pair a b n =
    if bit_eq (take n a) (take n b) then Ok (record { first = a; second = b; len = n }) else Err pair_error.NotInSharedNetwork

-- the pair of two addresses and a length, or an error: first where the length is above the width, then where the bits
-- differ
abbrev pub pair_from : Family → List Bool → List Bool → ℕ → Result Pair InetTupleError
pair_from family a b n =
    if nat_lt (width_of family) n then Err (pair_error.NetworkLengthTooLongError (too_long n family)) else shared_pair a b n

-- the pair of two hosts, or an error where their lengths or their networks differ
abbrev pub pair_of : Host → Host → Result Pair InetTupleError
pair_of a b = if a.len == b.len then shared_pair a.address b.address a.len else Err pair_error.NotInSharedNetwork

-- the same for values of either family: two different families are the first error
abbrev pub of_one_family : Family → Family → Result Pair InetTupleError → Result Pair InetTupleError
of_one_family Ipv4 Ipv4 result = result
of_one_family Ipv6 Ipv6 result = result
of_one_family Ipv4 Ipv6 result = Err pair_error.NotInSharedNetwork
of_one_family Ipv6 Ipv4 result = Err pair_error.NotInSharedNetwork
