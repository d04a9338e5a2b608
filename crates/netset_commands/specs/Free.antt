-- The networks of a prefix length that are free in a pool, or inside the networks of a list.
use Rattle.std.specs.Prelude.{◌≡◌, ℕ, ◌-◌, ◌^◌, ◌<◌, nat_lt, if◌then◌else◌, Bool, true, false, List, [], ◌∷◌, ◌++◌, length, take, Option, Some, None, option_map, Result, Ok, Err}
use Rattle.std.specs.List.{flat_map}
use Rattle.cidr.specs.either.IpNetwork.{network_family, network_prefix}
use Rattle.cidr.specs.model.Network.{width_of}
use Rattle.cidr.specs.declared.cidr.combined.IpCidr.{IpCidr}
use Rattle.cidr.specs.declared.cidr.combined.IpCidr.TheVariants.{V4, V6}
use Rattle.cidr.specs.declared.family.Family.{Family}
use Rattle.cidr.specs.declared.family.Family.TheVariants.{Ipv4, Ipv6}
use Rattle.cidr_ext.specs.model.Subnets.{subnets_of}
use Rattle.cidr_io.specs.Collecting.{Collects}
use Rattle.cidr_io.specs.Writing.{State}
use Rattle.cidr_io.specs.declared.sink.OutputFailed.{OutputFailed}
use Rattle.cidr_lists.specs.Formats.{Layout, Style, either_by, laid_out, printed_walk}
use Rattle.cidr_lists.specs.Sets.{IsFreeOf}
use Rattle.netset_commands.specs.Single.{IsNumber}
use Rattle.netset_commands.specs.declared.output.answers.Verdict.{Verdict}
use Rattle.netset_commands.specs.declared.output.answers.Verdict.TheVariants.{Yes, No}

-- the first of a list, at most so many or all for none, and how many more there may be behind them
abbrev pub taken : {X : Type 0} → Option ℕ → List X → List X
taken None xs = xs
taken (Some m) xs = take m xs

abbrev pub less : Option ℕ → ℕ → Option ℕ
less most n = option_map (λ (m : ℕ). m - n) most

-- the networks of n bits inside a network, ascending: none where it is longer, or where its family has none of n bits
abbrev pub inside_of : ℕ → IpCidr → List (Family × List Bool)
inside_of n network = if nat_lt n (length (network_prefix network)) then []
    else (if nat_lt (width_of (network_family network)) n then [] else subnets_of (network_family network) (network_prefix network) n)

-- what is told of each network of sets, IPv4 before IPv6
abbrev pub all_told : {X : Type 0} → (IpCidr → List X) → (Family → List (List Bool)) → List X
all_told told sets = flat_map (λ p. told (V4 p)) (sets Ipv4) ++ flat_map (λ p. told (V6 p)) (sets Ipv6)

-- the first of those inside the networks of sets, or none where there is none: where these are the shortest list of some
-- addresses, they are all networks of n bits that have only such addresses
abbrev pub IsFreeText : Option Style → (Family → List (List Bool)) → ℕ → Option ℕ → List ℕ → Verdict → Type 0
IsFreeText style sets n most answer Yes =
    (network : IpCidr) × IsFreeOf sets n (Some network) × (answer ≡ printed_walk style (taken most (all_told (inside_of n) sets)))
IsFreeText style sets n most answer No = IsFreeOf sets n None × (answer ≡ printed_walk style [])

-- ---- arguments
-- at most so many are asked for, or all for none, by whether --all is given and by the value of --count
abbrev pub IsMost : Bool → Option (List ℕ) → Option ℕ → Type 0
IsMost false None most = most ≡ Some 1
IsMost false (Some count) most = (m : ℕ) × IsNumber count m × (m < 2 ^ 64) × (most ≡ Some m)
IsMost true None most = most ≡ None
IsMost true (Some count) most = ⊥

-- ---- what private functions promise
-- what stands in front of each of these, behind one before them, if there is one: `before` tells it by the one before
abbrev pub all_before : {X : Type 0} → (Option X → List ℕ) → Option X → List X → List ℕ
all_before before last [] = []
all_before before last (x ∷ xs) = before last ++ all_before before (Some x) xs

-- the last of these, or the one before them
abbrev pub last_behind : {X : Type 0} → Option X → List X → Option X
last_behind last [] = last
last_behind last (x ∷ xs) = last_behind (Some x) xs

-- a network by its family and bits
abbrev pub pair_of : Option IpCidr → Option (Family × List Bool)
pair_of network = option_map (λ (n : IpCidr). (network_family n, network_prefix n)) network

-- what stands in front of so many of the networks was collected, and the last of them is held
abbrev pub TakesRows : (Option (Family × List Bool) → List ℕ) → Option ℕ → Option IpCidr → List (Family × List Bool) → State → State → List ℕ → List ℕ
    → Result (Option ℕ × Option IpCidr) OutputFailed → Type 0
TakesRows before most first all old new block rest (Ok (left, last)) =
    Collects old new block rest (all_before before (pair_of first) (taken most all)) (Ok tt)
    × (left ≡ less most (length all)) × (pair_of last ≡ last_behind (pair_of first) (taken most all))
TakesRows before most first all old new block rest (Err e) =
    Collects old new block rest (all_before before (pair_of first) (taken most all)) (Err e)

-- so many of the networks were collected, as a layout has them
abbrev pub TakesLayout : Layout → Option ℕ → List (Family × List Bool) → State → State → List ℕ → List ℕ → Result (Option ℕ) OutputFailed → Type 0
TakesLayout layout most all old new block rest (Ok left) =
    Collects old new block rest (laid_out either_by layout (taken most all)) (Ok tt) × (left ≡ less most (length all))
TakesLayout layout most all old new block rest (Err e) = Collects old new block rest (laid_out either_by layout (taken most all)) (Err e)
