-- A network as a string of bits: those that its addresses begin with, which its operations read and change.
use Rattle.std.specs.Prelude.{◌≡◌, ℕ, zero, suc, ◌+◌, ◌≤◌, min, not, Bool, List, [], ◌∷◌, ◌++◌, length, take, set, get_or, false}
use Rattle.cidr.specs.model.Network.{first_of, BeginsWith}
use Rattle.cidr.specs.model.Host.{Host}

-- n is the length of the longest list that both begin with: their longest common prefix
pub record IsSharedLength (p q : List Bool) (n : ℕ) : Type 0 where
  pub shared : (s : List Bool) × (length s ≡ n) × BeginsWith p s × BeginsWith q s
  pub longest : (s : List Bool) → BeginsWith p s → BeginsWith q s → length s ≤ n

-- bit i inverted, where i is counted from 0
abbrev pub inverted : ℕ → List Bool → Bool
inverted i p = not (get_or p i false)

-- ---- hosts, whose string is the network's; w is the width of addresses
-- the host with bit i of its address set to b
abbrev pub host_with_bit : ℕ → Bool → Host → Host
host_with_bit i b host = record { address = set host.address i b; len = host.len }

-- the host cut to k bits: all bits of its address from k on are zero, and its length is k at most
abbrev pub host_clipped : ℕ → ℕ → Host → Host
host_clipped w k host = record { address = first_of w (take k host.address); len = min host.len k }

-- the host with a prefix that is one bit longer: b takes the place of the first bit of the host part
abbrev pub host_longer : Bool → Host → Host
host_longer b host = record { address = set host.address host.len b; len = host.len + 1 }

-- ---- networks of either family and `Any`, whose string has the family bit in front
-- bit i becomes b; where that is the family bit, there is left the network of no bits of the family that b names, so
-- 0.0.0.0/0 or ::/0
abbrev pub any_with_bit : ℕ → Bool → List Bool → List Bool
any_with_bit zero b p = b ∷ []
any_with_bit (suc i) b p = set p (suc i) b
