-- A pool gives the addresses of an IPv4 network one by one.
use Rattle.std.specs.Prelude.{◌≡◌, Bool, List, map}
use Rattle.std.specs.List.{All}
use Rattle.std.specs.declared.cmp.Ordering.TheVariants.{Less}
use Rattle.cidr.specs.model.Bits.{bit_cmp}
use Rattle.cidr.specs.model.Network.{BeginsWith}
use Rattle.cidr.specs.model.Walk.{IsAscending}
use Rattle.cidr.specs.declared.family.Family.{Family}

-- the network, and its addresses that are free, in the order in which they are given
pub record Pool : Type 0 where
  pub network : List Bool
  pub free : List (List Bool)

-- the pool of a network and of what is left of the walk over it
abbrev pub pool_of : List Bool → List (Family × List Bool) → Pool
pool_of network left = record { network = network; free = map (λ (a : Family × List Bool). a.1) left }

-- every free address is in the network, and they ascend, so that none stands there twice
pub record IsPool (pool : Pool) : Type 0 where
  pub within : All (λ a. BeginsWith a pool.network) pool.free
  pub ascending : IsAscending pool.free

-- each of these addresses is above this one
abbrev pub IsBelowAll : List Bool → List (List Bool) → Type 0
IsBelowAll a rest = All (λ b. bit_cmp a b ≡ Less) rest
