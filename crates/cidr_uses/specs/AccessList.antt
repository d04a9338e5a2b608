-- An access list is a list of networks: an entry matches an address that is in its network.
use Rattle.std.specs.Prelude.{◌≡◌, ◌<◌, ℕ, Bool, List, Contains, length, take, Some}
use Rattle.std.specs.List.{All, slice_get}
use Rattle.cidr.specs.either.IpAddress.{ip_address_bits}
use Rattle.cidr.specs.either.IpNetwork.{any_bits}
use Rattle.cidr.specs.model.Network.{BeginsWith}
use Rattle.cidr.specs.declared.addr.ip.IpAddr.{IpAddr}
use Rattle.cidr.specs.declared.cidr.any.AnyIpCidr.{AnyIpCidr}
use Rattle.cidr_sets.specs.model.FirstRules.{IsFirstRule}

-- the address is in the entry's network: it has its family and begins with its bits, and every address matches `any`
abbrev pub Matches : IpAddr → AnyIpCidr → Type 0
Matches address entry = BeginsWith (ip_address_bits address) (any_bits entry)

-- the entry at this index matches the address, and none before it does
abbrev pub IsFirstMatch : List AnyIpCidr → IpAddr → ℕ → Type 0
IsFirstMatch entries address i =
    ((entry : AnyIpCidr) × (slice_get entries i ≡ Some entry) × Matches address entry)
    × All (λ entry. ¬ (Matches address entry)) (take i entries)

-- rules before the one at this index, one of which decides each address of its network
pub record AreDeciders (w : ℕ) (networks : List (List Bool)) (i : ℕ) (deciders : List ℕ) : Type 0 where
  pub earlier : (j : ℕ) → Contains deciders j → j < i
  pub all : (p a : List Bool) → slice_get networks i ≡ Some p → length a ≡ w → BeginsWith a p
      → (j : ℕ) × Contains deciders j × IsFirstRule networks a j
