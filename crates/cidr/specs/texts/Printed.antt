-- What is printed of networks, hosts and pairs.
use Rattle.std.specs.Prelude.{◌≡◌, ◌+◌, ◌<◌, ◌≤◌, ℕ, Bool, List, [], ◌∷◌, ◌++◌, length, codes, decimal, ◌==◌, if◌then◌else◌, Result, Ok, Err}
use Rattle.cidr.specs.model.Network.{width_of, first_of}
use Rattle.cidr.specs.model.Host.{Host}
use Rattle.cidr.specs.model.Pair.{Pair, first_of_pair, second_of_pair}
use Rattle.cidr.specs.texts.NetworkText.{slash}
use Rattle.cidr.specs.texts.PrintedAddress.{address_text}
use Rattle.cidr.specs.declared.family.Family.{Family}
use Rattle.cidr.specs.declared.family.Family.TheVariants.{Ipv4, Ipv6}

-- a slash and the prefix length
abbrev pub length_text : ℕ → List ℕ
length_text n = slash ∷ decimal n

-- a host with its prefix length: its address and the length
abbrev pub forced_host_text : Family → Host → List ℕ
forced_host_text family host = address_text family host.address ++ length_text host.len

-- a host as it is printed: the prefix length is left out where it is full
abbrev pub plain_host_text : Family → Host → List ℕ
plain_host_text family host =
    address_text family host.address ++ (if host.len == width_of family then [] else length_text host.len)

-- a network with its prefix length: its first address and the length
abbrev pub forced_text : Family → List Bool → List ℕ
forced_text family network = address_text family (first_of (width_of family) network) ++ length_text (length network)

-- a network as it is printed: the prefix length is left out where it is full
abbrev pub plain_text : Family → List Bool → List ℕ
plain_text family network =
    address_text family (first_of (width_of family) network)
    ++ (if length network == width_of family then [] else length_text (length network))

-- the length in bytes of the longest string of a network or a host
abbrev pub longest_text : Family → ℕ
longest_text Ipv4 = 18
longest_text Ipv6 = 43

-- of a text with room for so many bytes: these stand behind the old ones, or where they have no room it is as it was
abbrev pub IsAppended : {E : Type 0} → ℕ → List ℕ → List ℕ → List ℕ → Result (Unit {0}) E → Type 0
IsAppended room printed old new (Ok done) = (length old + length printed ≤ room) × (new ≡ old ++ printed)
IsAppended room printed old new (Err e) = (room < length old + length printed) × (new ≡ old)

-- two strings in parentheses, with a comma and a space between them
abbrev pub in_parentheses : List ℕ → List ℕ → List ℕ
in_parentheses first second = codes "(" ++ (first ++ (codes ", " ++ (second ++ codes ")")))

-- a pair as it is printed: both hosts in parentheses, each in this form
abbrev pub pair_text : (Host → List ℕ) → Pair → List ℕ
pair_text host_text pair = in_parentheses (host_text (first_of_pair pair)) (host_text (second_of_pair pair))
