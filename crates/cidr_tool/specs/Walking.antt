-- The command `walk`: the letters that name ends of a walk, and the lines that answer them.
use Rattle.std.specs.Prelude.{◌≡◌, ℕ, ◌≤◌, Bool, List, ◌++◌, length, map, codes, Option, Some, None}
use Rattle.std.specs.List.{flat_map}
use Rattle.cidr.specs.either.IpNetwork.{network_family, network_prefix}
use Rattle.cidr.specs.texts.PrintedAddress.{ipv4_text, ipv6_text}
use Rattle.cidr.specs.model.Walk.{addresses_of, network_hosts, answers_to}
use Rattle.cidr.specs.declared.cidr.combined.IpCidr.{IpCidr}
use Rattle.cidr.specs.declared.family.Family.{Family}
use Rattle.cidr.specs.declared.family.Family.TheVariants.{Ipv4, Ipv6}
use Rattle.cidr.specs.declared.inet_iterator.driving.End.{End}
use Rattle.cidr.specs.declared.inet_iterator.driving.End.TheVariants.{Front, Back}

-- f for the front, b for the back, as character codes
abbrev pub letter : End → ℕ
letter Front = 102
letter Back = 98

-- how many letters there may be
abbrev pub most_ends : ℕ
most_ends = 256

-- the letters name these ends, one each, and no more than there may be
abbrev pub NamesEnds : List ℕ → List End → Type 0
NamesEnds letters ends = (letters ≡ map letter ends) × (length ends ≤ most_ends)

-- the line that answers a call: the address that it gave, or `none`
abbrev pub answer_line : Option (Family × List Bool) → List ℕ
answer_line None = codes "none\n"
answer_line (Some (Ipv4, a)) = ipv4_text a ++ codes "\n"
answer_line (Some (Ipv6, a)) = ipv6_text a ++ codes "\n"

-- the lines that answer calls at these ends of the walk over the network's addresses
abbrev pub walk_text : IpCidr → List End → List ℕ
walk_text network ends =
    flat_map answer_line (answers_to (addresses_of (network_hosts (network_family network) (network_prefix network))) ends)
