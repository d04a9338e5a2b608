-- Networks as keys of a look-up table, and their order; and what a value says.
use Rattle.std.specs.Prelude.{◌≡◌, ℕ, zero, suc, ◌+◌, ◌-◌, ◌%◌, ◌^◌, ◌<◌, ◌≤◌, ◌⊎◌, Bool, List, Option, Some, None, length, map, take, slice_index_or}
use Rattle.cidr.specs.model.Bits.{bits}
use Rattle.cidr_lookup.specs.declared.key.Key.{Key}

-- ---- networks: the number of the first address and the prefix length (RFC 4632, 3.1); w is the width of addresses
-- the length is at most the width, and no bit of the address after the prefix is set
pub record IsNetwork (w : ℕ) (network : ℕ × ℕ) : Type 0 where
  pub fits : network.1 ≤ w
  pub within : network.0 < 2 ^ w
  pub host : network.0 % 2 ^ (w - network.1) ≡ 0

-- the bits that its addresses begin with
abbrev pub prefix_bits : ℕ → ℕ × ℕ → List Bool
prefix_bits w network = take network.1 (bits w network.0)

-- the order of a table: by first address, and then by length
abbrev pub Precedes : ℕ × ℕ → ℕ × ℕ → Type 0
Precedes a b = (a.0 < b.0) ⊎ ((a.0 ≡ b.0) × (a.1 < b.1))

-- the first `bound` are networks and ascend, so that none repeats
pub record AreNetworksUpTo (w : ℕ) (networks : List (ℕ × ℕ)) (bound : ℕ) : Type 0 where
  pub each : (i : ℕ) → i < bound → IsNetwork w (slice_index_or networks i (0, 0))
  pub ascending : (i k : ℕ) → i < k → k < bound → Precedes (slice_index_or networks i (0, 0)) (slice_index_or networks k (0, 0))

-- all are networks and ascend
abbrev pub AreAscendingNetworks : ℕ → List (ℕ × ℕ) → Type 0
AreAscendingNetworks w networks = AreNetworksUpTo w networks (length networks)

-- the first that is no network or doesn't come behind the one before it, or none
abbrev pub IsFirstRefused : ℕ → List (ℕ × ℕ) → Option ℕ → Type 0
IsFirstRefused w networks (Some i) = (i < length networks) × AreNetworksUpTo w networks i × ¬ (AreNetworksUpTo w networks (i + 1))
IsFirstRefused w networks None = AreAscendingNetworks w networks

-- the networks of keys, as an array has them
abbrev pub key_networks : {W : Type 0} → (W → ℕ) → List (Key W) → List (ℕ × ℕ)
key_networks {W} value keys = map (λ (key : Key W). (value key.address, key.len)) keys

-- ---- what a value says: 0 that no network has the address, and else how many networks there are up to the longest that has
abbrev pub row_behind : ℕ → Option ℕ
row_behind zero = None
row_behind (suc row) = Some row
