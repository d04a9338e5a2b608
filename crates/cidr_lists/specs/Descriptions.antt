-- What is told of a host, of its network and of a prefix length.
use Rattle.std.specs.Prelude.{◌≡◌, ℕ, ◌-◌, nat_lt, Bool, if◌then◌else◌, List, [], ◌∷◌, ◌++◌, length, codes, decimal}
use Rattle.cidr.specs.either.IpAddress.{address_family, plain_bits}
use Rattle.cidr.specs.either.IpNetwork.{network_family, network_prefix, address_by}
use Rattle.cidr.specs.either.IpText.{ip_network_text}
use Rattle.cidr.specs.model.Host.{Host}
use Rattle.cidr.specs.model.Network.{first_of, last_of, mask_of, width_of, ones, zeros}
use Rattle.cidr.specs.texts.Printed.{plain_text}
use Rattle.cidr.specs.texts.PrintedAddress.{address_text, ip_text}
use Rattle.cidr.specs.declared.addr.ip.IpAddr.{IpAddr}
use Rattle.cidr.specs.declared.cidr.combined.IpCidr.{IpCidr}
use Rattle.cidr.specs.declared.family.Family.{Family}
use Rattle.cidr.specs.declared.family.Family.TheVariants.{Ipv4, Ipv6}
use Rattle.cidr_ext.specs.model.Inside.{host_mask_of, usable_of}
use Rattle.cidr_ext.specs.texts.Reverse.{reverse_text}
use Rattle.cidr_lists.specs.Classes.{HasClass}
use Rattle.cidr_lists.specs.Printing.{line}

-- ---- masks
-- the mask of a prefix length (RFC 4632, 3.1) and the host mask, its inverse, as a line
abbrev pub mask_pair : Family → ℕ → List ℕ
mask_pair family n =
    address_text family (ones n ++ zeros (width_of family - n))
    ++ (codes " " ++ line (address_text family (zeros n ++ ones (width_of family - n))))

-- the same behind the first address of a network
abbrev pub mask_line : IpCidr → List ℕ
mask_line n =
    address_text (network_family n) (first_of (width_of (network_family n)) (network_prefix n))
    ++ (codes " " ++ mask_pair (network_family n) (length (network_prefix n)))

-- the masks of a prefix length in a family, if it has the length, and in each family that has it
abbrev pub family_masks : Family → ℕ → List ℕ
family_masks family n = if nat_lt (width_of family) n then [] else mask_pair family n

abbrev pub length_lines : ℕ → List ℕ
length_lines n = family_masks Ipv4 n ++ family_masks Ipv6 n

-- ---- hosts
-- the name of a family
abbrev pub family_name : Family → List ℕ
family_name Ipv4 = codes "IPv4"
family_name Ipv6 = codes "IPv6"

-- the address of a host as it is printed
abbrev pub host_text : Family × Host → List ℕ
host_text (family, host) = address_text family host.address

-- the address of the last of some hosts
abbrev pub last_text : Family × Host → List (Family × Host) → List ℕ
last_text host [] = host_text host
last_text host (next ∷ rest) = last_text next rest

-- hosts as the range of their addresses, or as the only address
abbrev pub range_text : List (Family × Host) → List ℕ
range_text [] = codes "none"
range_text (host ∷ []) = host_text host
range_text (first ∷ next ∷ rest) = host_text first ++ (codes "-" ++ last_text next rest)

-- what there is to say of a network, itself, its first and last address, its mask and host mask, its prefix length, its family and the addresses
-- that hosts may have, and of an address in it: its name in reverse DNS, and what it is for
abbrev pub host_lines : IpCidr → IpAddr → List ℕ → List ℕ
host_lines n address class =
    codes "network " ++ (ip_network_text plain_text n
    ++ (codes "\nfirst " ++ (ip_text (address_by first_of n)
    ++ (codes "\nlast " ++ (ip_text (address_by last_of n)
    ++ (codes "\nmask " ++ (ip_text (address_by mask_of n)
    ++ (codes "\nhostmask " ++ (address_text (network_family n) (host_mask_of (width_of (network_family n)) (network_prefix n))
    ++ (codes "\nlength " ++ (decimal (length (network_prefix n))
    ++ (codes "\nfamily " ++ (family_name (network_family n)
    ++ (codes "\nusable " ++ (range_text (usable_of (network_family n) (network_prefix n))
    ++ (codes "\nname " ++ (reverse_text (address_family address) (plain_bits address)
    ++ (codes "\nclass " ++ line class))))))))))))))))))

-- the same by the registries
abbrev pub IsHostLines : IpCidr → IpAddr → List ℕ → Type 0
IsHostLines n address text = (class : List ℕ) × (found : Bool) × HasClass address class found × (text ≡ host_lines n address class)
