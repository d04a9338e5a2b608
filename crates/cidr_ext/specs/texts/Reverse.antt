-- The names of networks in reverse DNS: labels for the octets of an IPv4 network (RFC 1035, 3.5) or for the nibbles of
-- an IPv6 network (RFC 3596, 2.5), the last one first, and the domain of the family. A name is the list of its bytes.
use Rattle.std.specs.Prelude.{◌≡◌, ℕ, ◌/◌, ◌%◌, ◌≤◌, ◌⊎◌, Bool, List, [], ◌∷◌, ◌++◌, length, map, flat_map, reverse, codes, decimal}
use Rattle.std.specs.Char.{digit_char, to_ascii_lowercase}
use Rattle.cidr.specs.model.Address.{parts_of}
use Rattle.cidr.specs.model.Network.{width_of}
use Rattle.cidr.specs.texts.Ipv4Text.{dot}
use Rattle.cidr.specs.declared.family.Family.{Family}
use Rattle.cidr.specs.declared.family.Family.TheVariants.{Ipv4, Ipv6}

-- the number of bits that a label stands for: an octet or a nibble
abbrev pub label_width : Family → ℕ
label_width Ipv4 = 8
label_width Ipv6 = 4

-- the domain of the names
abbrev pub domain_of : Family → List ℕ
domain_of Ipv4 = codes "in-addr.arpa"
domain_of Ipv6 = codes "ip6.arpa"

-- a label as it is printed: a decimal number, or a hexadecimal digit in lower case
abbrev pub label_text : Family → ℕ → List ℕ
label_text Ipv4 n = decimal n
label_text Ipv6 n = digit_char n ∷ []

-- the length in bytes of the longest label with its dot
abbrev pub longest_label : Family → ℕ
longest_label Ipv4 = 4
longest_label Ipv6 = 2

-- labels with a dot behind each
abbrev pub labels_text : Family → List ℕ → List ℕ
labels_text family labels = flat_map (λ n. label_text family n ++ dot ∷ []) labels

-- the bits of the network are whole labels
abbrev pub EndsAtLabel : Family → List Bool → Type 0
EndsAtLabel family network = length network % label_width family ≡ 0

-- the octets or the nibbles of a network, the first one first
abbrev pub labels_of : Family → List Bool → List ℕ
labels_of family network = parts_of (label_width family) (length network / label_width family) network

-- the name that is printed of a network
abbrev pub reverse_text : Family → List Bool → List ℕ
reverse_text family network = labels_text family (reverse (labels_of family network)) ++ domain_of family

-- ---- reading
-- a string is this name, which is in lower case: the case of ASCII letters makes no difference (RFC 4343, 3), and the
-- dot of the root may end the name (RFC 1034, 3.1)
abbrev pub IsSameName : List ℕ → List ℕ → Type 0
IsSameName text name = (map to_ascii_lowercase text ≡ name) ⊎ (map to_ascii_lowercase text ≡ name ++ dot ∷ [])

-- the string is the name of this network
abbrev pub IsReverseName : Family → List ℕ → List Bool → Type 0
IsReverseName family text network =
    (length network ≤ width_of family) × EndsAtLabel family network × IsSameName text (reverse_text family network)

-- the string is the name of this address
abbrev pub IsReverseAddressName : Family → List ℕ → List Bool → Type 0
IsReverseAddressName family text address = (length address ≡ width_of family) × IsSameName text (reverse_text family address)
