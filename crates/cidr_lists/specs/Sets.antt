-- Sets of addresses of both families, and how they are written.
use Rattle.std.specs.Prelude.{ℕ, Bool, List, ◌++◌, ◌≡◌, if◌then◌else◌, codes, decimal, Option, Some, None, [], ◌∷◌, ◌⊎◌}
use Rattle.std.specs.List.{flat_map}
use Rattle.cidr.specs.model.Bits.{bit_eq}
use Rattle.cidr.specs.texts.Printed.{plain_text}
use Rattle.cidr.specs.texts.PrintedAddress.{address_text}
use Rattle.cidr.specs.declared.family.Family.{Family}
use Rattle.cidr.specs.declared.family.Family.TheVariants.{Ipv4, Ipv6}
use Rattle.cidr.specs.model.Network.{width_of, FitsWidth}
use Rattle.cidr.specs.declared.cidr.combined.IpCidr.{IpCidr}
use Rattle.cidr.specs.declared.cidr.combined.IpCidr.TheVariants.{V4, V6}
use Rattle.cidr_table.specs.model.Cover.{Covers}
use Rattle.cidr_lists.specs.Printing.{line}
use Rattle.cidr_sets.specs.model.Counts.{HaveCount}
use Rattle.cidr_sets.specs.model.Ranges.{AreRanges}
use Rattle.cidr_lists.specs.declared.sets.Form.{Form}
use Rattle.cidr_lists.specs.declared.sets.Form.TheVariants.{Networks, Ranges, Counts}
use Rattle.cidr_lists.specs.declared.sets.Sets.{Sets}
use Rattle.cidr_sets.specs.model.Pools.{IsFirstFree}
use Rattle.cidr_lists.specs.declared.sets.Step.{Step}
use Rattle.cidr_lists.specs.declared.sets.Step.TheVariants.{Union, Difference, Intersection}

-- the networks of a family, one a line, in their order
abbrev pub printed_networks : Family → List (List Bool) → List ℕ
printed_networks family networks = flat_map (λ network. line (plain_text family network)) networks

-- IPv4 before IPv6
abbrev pub printed_sets : (Family → List (List Bool)) → List ℕ
printed_sets sets = printed_networks Ipv4 (sets Ipv4) ++ printed_networks Ipv6 (sets Ipv6)

-- the networks of the set of a family
abbrev pub networks_of : Sets → Family → List (List Bool)
networks_of sets Ipv4 = sets.v4
networks_of sets Ipv6 = sets.v6

-- the address is in the set of its family
abbrev pub IsInSets : Sets → Family → List Bool → Type 0
IsInSets sets family a = Covers (networks_of sets family) a

-- how many addresses of each family, a line each
abbrev pub printed_counts : (Family → ℕ) → List ℕ
printed_counts count = codes "IPv4 " ++ (decimal (count Ipv4) ++ (codes "\nIPv6 " ++ (decimal (count Ipv6) ++ codes "\n")))

-- the sets have so many addresses of each family
abbrev pub HaveCounts : (Family → List (List Bool)) → (Family → ℕ) → Type 0
HaveCounts sets count = (family : Family) → HaveCount (width_of family) (sets family) (count family)

-- the first and the last address of a range as a line, or its one address; `text` tells what an address is printed as
abbrev pub range_line : (List Bool → List ℕ) → List Bool × List Bool → List ℕ
range_line text (first, last) =
    if bit_eq first last then line (text first) else text first ++ (codes "-" ++ line (text last))

-- IPv4 before IPv6
abbrev pub printed_ranges : (Family → List (List Bool × List Bool)) → List ℕ
printed_ranges ranges =
    flat_map (range_line (address_text Ipv4)) (ranges Ipv4) ++ flat_map (range_line (address_text Ipv6)) (ranges Ipv6)

-- what is printed of sets: their networks, the longest ranges of their addresses, or how many addresses they have
abbrev pub IsPrinted : Form → (Family → List (List Bool)) → List ℕ → Type 0
IsPrinted Networks sets text = text ≡ printed_sets sets
IsPrinted Ranges sets text = (ranges : Family → List (List Bool × List Bool))
    × ((family : Family) → AreRanges 129 (Covers (sets family)) (ranges family)) × (text ≡ printed_ranges ranges)
IsPrinted Counts sets text = (count : Family → ℕ) × HaveCounts sets count × (text ≡ printed_counts count)

-- the first network of n bits that has only addresses of the sets, of IPv4 before IPv6, or none where there is none
abbrev pub IsFreeOf : (Family → List (List Bool)) → ℕ → Option IpCidr → Type 0
IsFreeOf sets n (Some (V4 p)) = IsFirstFree (FitsWidth 32) (sets Ipv4) n (Some p)
IsFreeOf sets n (Some (V6 p)) =
    IsFirstFree (FitsWidth 32) (sets Ipv4) n None × IsFirstFree (FitsWidth 128) (sets Ipv6) n (Some p)
IsFreeOf sets n None = IsFirstFree (FitsWidth 32) (sets Ipv4) n None × IsFirstFree (FitsWidth 128) (sets Ipv6) n None

-- whether an address is there after a step, by whether it was there before and whether the list has it
abbrev pub Steps : Step → Type 0 → Type 0 → Type 0
Steps Union Before Here = Before ⊎ Here
Steps Difference Before Here = Before × ¬ Here
Steps Intersection Before Here = Before × Here

-- the same after the steps of some lists
abbrev pub Combined : {X : Type 0} → (X → Family → List Bool → Type 0) → Step → Type 0 → List X → Family → List Bool → Type 0
Combined In step Before [] family a = Before
Combined In step Before (x ∷ xs) family a = Combined In step (Steps step Before (In x family a)) xs family a
