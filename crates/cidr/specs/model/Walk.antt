-- The walk from one address to another, and what calls at its two ends give and leave (Rust's `first..=second`).
use Rattle.std.specs.Prelude.{◌≡◌, ◌≢◌, ◌↔◌, ℕ, ◌+◌, ◌-◌, ◌^◌, ◌<◌, Bool, true, false, List, [], ◌∷◌, ◌++◌, map, length, drop, take, ◌==◌, Option, Some, None, if◌then◌else◌, nat_le, nat_lt}
use Rattle.std.specs.List.{Contains, slice_get, range_with_len}
use Rattle.std.specs.declared.cmp.Ordering.TheVariants.{Less, Greater}
use Rattle.cidr.specs.model.Bits.{bits, number, bit_cmp}
use Rattle.cidr.specs.model.Network.{width_of, first_of, last_of, BeginsWith}
use Rattle.cidr.specs.model.Host.{Host}
use Rattle.cidr.specs.model.Pair.{Pair}
use Rattle.cidr.specs.declared.family.Family.{Family}
use Rattle.cidr.specs.declared.inet_iterator.driving.End.{End}
use Rattle.cidr.specs.declared.inet_iterator.driving.End.TheVariants.{Front, Back}

-- all addresses of w bits from the first to the second, inclusive, ascending; none where the first is above the second
abbrev pub walk_between : ℕ → List Bool → List Bool → List (List Bool)
walk_between w first second = map (bits w) (range_with_len (number first) (number second + 1 - number first))

-- the walk of a pair: from its first address to its second
abbrev pub pair_walk : Family → Pair → List (List Bool)
pair_walk family pair = walk_between (width_of family) pair.first pair.second

-- the first and the last address of a network, with its prefix length, as a pair
abbrev pub network_pair : ℕ → List Bool → Pair
network_pair w network = record { first = first_of w network; second = last_of w network; len = length network }

-- the walk of a network: from its first address to its last, network and broadcast address included
abbrev pub network_walk : Family → List Bool → List (List Bool)
network_walk family network = pair_walk family (network_pair (width_of family) network)

-- the walk has exactly the addresses of the width that begin with the bits of the network
abbrev pub HasExactly : Family → List Bool → List (List Bool) → Type 0
HasExactly family network walk = (a : List Bool) → Contains walk a ↔ ((length a ≡ width_of family) × BeginsWith a network)

-- a walk as hosts of this prefix length; the family tells a host of IPv4 from one of IPv6
abbrev pub hosts_of : Family → ℕ → List (List Bool) → List (Family × Host)
hosts_of family len walk = map (λ a. (family, record { address = a; len = len })) walk

-- the walk of a pair as hosts
abbrev pub pair_hosts : Family → Pair → List (Family × Host)
pair_hosts family pair = hosts_of family pair.len (pair_walk family pair)

-- the walk of a network as hosts
abbrev pub network_hosts : Family → List Bool → List (Family × Host)
network_hosts family network = pair_hosts family (network_pair (width_of family) network)

-- of two items the one with the lower index has the lesser address, so that no address comes twice
abbrev pub IsAscending : List (List Bool) → Type 0
IsAscending walk = (i j : ℕ) (a b : List Bool) → i < j → slice_get walk i ≡ Some a → slice_get walk j ≡ Some b → bit_cmp a b ≡ Less

-- an address of w bits from the first to the second, inclusive
abbrev pub LiesBetween : ℕ → List Bool → List Bool → List Bool → Type 0
LiesBetween w first second a = (length a ≡ w) × (bit_cmp first a ≢ Greater) × (bit_cmp a second ≢ Greater)

-- what is left of the walk of a pair, as hosts: nothing where the iterator has no pair any more
abbrev pub hosts_left : {P : Type 0} → (P → Family) → (P → Pair) → Option P → List (Family × Host)
hosts_left family pair None = []
hosts_left family pair (Some p) = pair_hosts (family p) (pair p)

-- hosts without their prefix lengths
abbrev pub addresses_of : List (Family × Host) → List (Family × List Bool)
addresses_of hosts = map (λ (h : Family × Host). (h.0, h.1.address)) hosts

-- ---- one end of a walk dropped
-- true: the first item is gone; false: nothing is
abbrev pub LosesFirst : {X : Type 0} → Bool → List X → List X → Type 0
LosesFirst {X} true old new = (x : X) × (old ≡ x ∷ new)
LosesFirst {X} false old new = new ≡ old

-- true: the last item is gone; false: nothing is
abbrev pub LosesLast : {X : Type 0} → Bool → List X → List X → Type 0
LosesLast {X} true old new = (x : X) × (old ≡ new ++ x ∷ [])
LosesLast {X} false old new = new ≡ old

-- ---- calls at the two ends
-- what a call at this end returns after f calls at the front and b at the back: none if these are as many as the items
-- or more, else item f from the start or item b from the end, counted from 0
abbrev pub answer_at : {X : Type 0} → List X → ℕ → ℕ → End → Option X
answer_at items f b Front = if nat_le (length items) (f + b) then None else slice_get items f
answer_at items f b Back = if nat_le (length items) (f + b) then None else slice_get items (length items - 1 - b)

-- what calls at these ends return, in order, after f calls at the front and b at the back
abbrev pub answers_after : {X : Type 0} → List X → ℕ → ℕ → List End → List (Option X)
answers_after items f b [] = []
answers_after items f b (Front ∷ ends) = answer_at items f b Front ∷ answers_after items (f + 1) b ends
answers_after items f b (Back ∷ ends) = answer_at items f b Back ∷ answers_after items f (b + 1) ends

-- what calls at these ends return, in order, from the start
abbrev pub answers_to : {X : Type 0} → List X → List End → List (Option X)
answers_to items ends = answers_after items 0 0 ends

-- how many of the calls are at the front
abbrev pub fronts : List End → ℕ
fronts [] = 0
fronts (Front ∷ ends) = fronts ends + 1
fronts (Back ∷ ends) = fronts ends

-- how many of the calls are at the back
abbrev pub backs : List End → ℕ
backs [] = 0
backs (Front ∷ ends) = backs ends
backs (Back ∷ ends) = backs ends + 1

-- the items without the first f and the last b; none if these are all or more
abbrev pub without : {X : Type 0} → List X → ℕ → ℕ → List X
without items f b = take (length items - f - b) (drop f items)

-- ---- how many are left
-- the number, where a `usize` of 64 bits has it
abbrev pub count_of : ℕ → Option ℕ
count_of n = if nat_lt n (2 ^ 64) then Some n else None

-- what `size_hint` returns for n items: n twice; from 2^64 on the greatest `usize` and no upper bound; and for 2^128,
-- which no `u128` has, 0 and no upper bound
abbrev pub bounds_of : ℕ → ℕ × Option ℕ
bounds_of n = if nat_lt n (2 ^ 64) then (n, Some n) else (if n == 2 ^ 128 then (0, None) else (2 ^ 64 - 1, None))
