-- What calls at both ends of the walk of a string's network return.
use Rattle.std.specs.Prelude.{◌≡◌, ℕ, ◌≤◌, Bool, List, Option, Some, length}
use Rattle.std.specs.List.{slice_get}
use Rattle.cidr.specs.either.IpText.{IsIpNetworkText}
use Rattle.cidr.specs.either.IpNetwork.{network_family, network_prefix}
use Rattle.cidr.specs.model.Network.{width_of, BeginsWith}
use Rattle.cidr.specs.model.Walk.{network_walk}
use Rattle.cidr.specs.declared.cidr.combined.IpCidr.{IpCidr}
use Rattle.cidr.specs.declared.family.Family.{Family}
use Rattle.cidr.specs.declared.inet_iterator.driving.End.{End}

-- the string represents a network, and the answers of these calls are its addresses, each once, and all after enough calls
pub record DrivesString (text : List ℕ) (ends : List End) (answers : List (Option (Family × List Bool))) : Type 0 where
  pub network : IpCidr
  pub spelled : IsIpNetworkText text network
  -- only addresses of the network
  pub within : (k : ℕ) (a : Family × List Bool) → slice_get answers k ≡ Some (Some a)
      → (a.0 ≡ network_family network) × (length a.1 ≡ width_of (network_family network)) × BeginsWith a.1 (network_prefix network)
  -- none twice
  pub once : (j k : ℕ) (a : Family × List Bool) → slice_get answers j ≡ Some (Some a) → slice_get answers k ≡ Some (Some a) → j ≡ k
  -- all, after as many calls as the network has addresses
  pub all : length (network_walk (network_family network) (network_prefix network)) ≤ length ends
      → (a : List Bool) → length a ≡ width_of (network_family network) → BeginsWith a (network_prefix network)
      → (k : ℕ) × (slice_get answers k ≡ Some (Some (network_family network, a)))
