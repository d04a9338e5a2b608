-- What is printed of an address.
use Rattle.std.specs.Prelude.{ℕ, Bool, List, ◌∷◌, ◌++◌, take, drop, codes, decimal, bytes_eq, if◌then◌else◌, slice_index}
use Rattle.std.specs.Net.Text.{hex_groups_text}
use Rattle.cidr.specs.model.Address.{octets_of, groups_of}
use Rattle.cidr.specs.texts.Ipv4Text.{dot}
use Rattle.cidr.specs.texts.Canonical.{mapped_groups}
use Rattle.cidr.specs.declared.addr.ip.IpAddr.{IpAddr}
use Rattle.cidr.specs.declared.addr.ip.IpAddr.TheVariants.{V4, V6}
use Rattle.cidr.specs.declared.family.Family.{Family}
use Rattle.cidr.specs.declared.family.Family.TheVariants.{Ipv4, Ipv6}

-- four decimal numbers joined by dots
abbrev pub dotted : List ℕ → List ℕ
dotted o = decimal (slice_index o 0) ++ dot ∷ (decimal (slice_index o 1) ++ dot ∷ (decimal (slice_index o 2) ++ dot ∷ decimal (slice_index o 3)))

-- what is printed of an IPv4 address
unfoldable pub ipv4_text : List Bool → List ℕ
ipv4_text a = dotted (octets_of a)

-- what is printed of an IPv6 address: std's form, which is the canonical one
unfoldable pub ipv6_text : List Bool → List ℕ
ipv6_text a =
    if bytes_eq (take 6 (groups_of a)) mapped_groups then codes "::ffff:" ++ ipv4_text (drop 96 a)
    else hex_groups_text (groups_of a)

-- what is printed of an address of the family
abbrev pub address_text : Family → List Bool → List ℕ
address_text Ipv4 = ipv4_text
address_text Ipv6 = ipv6_text

-- the length in bytes of the longest such string
abbrev pub longest_address : Family → ℕ
longest_address Ipv4 = 15
longest_address Ipv6 = 39

-- what is printed of an address of either family
abbrev pub ip_text : IpAddr → List ℕ
ip_text (V4 a) = ipv4_text a
ip_text (V6 a) = ipv6_text a
