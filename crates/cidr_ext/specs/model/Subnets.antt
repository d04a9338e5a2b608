-- The networks of one prefix length inside a network, by their index in ascending order.
use Rattle.std.specs.Prelude.{◌≡◌, ℕ, ◌+◌, ◌-◌, ◌^◌, ◌<◌, ◌≤◌, ◌⊎◌, ◌↔◌, Bool, List, [], ◌++◌, length, map, Option, Some, None}
use Rattle.std.specs.List.{Contains, range_with_len, slice_get}
use Rattle.std.specs.declared.cmp.Ordering.TheVariants.{Less}
use Rattle.cidr.specs.model.Bits.{bit_cmp, bits, number}
use Rattle.cidr.specs.model.Network.{BeginsWith}
use Rattle.cidr.specs.declared.family.Family.{Family}

-- the network of n bits at index i inside another, from 0 on: behind the bits of that stands i
abbrev pub IsSubnetAt : List Bool → ℕ → ℕ → List Bool → Type 0
IsSubnetAt network n i inner = (length inner ≡ n) × (inner ≡ network ++ bits (n - length network) i)

-- none is there: no network inside has n bits, or fewer than i + 1 have
abbrev pub NoSubnetAt : ℕ → List Bool → ℕ → ℕ → Type 0
NoSubnetAt w network n i = (n < length network) ⊎ (w < n) ⊎ (2 ^ (n - length network) ≤ i)

-- the network of the same length that follows
abbrev pub IsNextNetwork : List Bool → List Bool → Type 0
IsNextNetwork network next = (length next ≡ length network) × (number next ≡ number network + 1)

-- ---- one by one
-- as many of the networks of n bits as `count` says, ascending from index `first` on; the family tells one of IPv4 from
-- one of IPv6
abbrev pub subnets_from : Family → List Bool → ℕ → ℕ → ℕ → List (Family × List Bool)
subnets_from family network n first count = map (λ i. (family, network ++ bits (n - length network) i)) (range_with_len first count)

-- all networks of n bits inside a network, ascending
abbrev pub subnets_of : Family → List Bool → ℕ → List (Family × List Bool)
subnets_of family network n = subnets_from family network n 0 (2 ^ (n - length network))

-- those from one index to another, inclusive, and none where there are no indexes
abbrev pub subnets_left : Family → List Bool → ℕ → Option (ℕ × ℕ) → List (Family × List Bool)
subnets_left family network n None = []
subnets_left family network n (Some (first, last)) = subnets_from family network n first (last + 1 - first)

-- exactly the networks of n bits that begin with the bits of the network
abbrev pub HasExactlySubnets : Family → List Bool → ℕ → List (Family × List Bool) → Type 0
HasExactlySubnets family network n inner =
    (q : Family × List Bool) → Contains inner q ↔ ((q.0 ≡ family) × (length q.1 ≡ n) × BeginsWith q.1 network)

-- of two networks the one with the lower index comes first, so that none comes twice
abbrev pub AscendEachOnce : List (Family × List Bool) → Type 0
AscendEachOnce inner = (i j : ℕ) (p q : Family × List Bool) → i < j → slice_get inner i ≡ Some p → slice_get inner j ≡ Some q
    → bit_cmp p.1 q.1 ≡ Less

-- how many indexes there are from one to another
abbrev pub index_count : Option (ℕ × ℕ) → ℕ
index_count None = 0
index_count (Some (first, last)) = last + 1 - first
