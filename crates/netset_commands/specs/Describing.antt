-- What is told of networks, a line or more each: the names of their zones in reverse DNS, or their masks.
use Rattle.std.specs.Prelude.{◌≡◌, ℕ, ◌+◌, ◌-◌, ◌*◌, ◌/◌, ◌<◌, ◌≤◌, ◌⊎◌, List, decimal, length}
use Rattle.std.specs.List.{flat_map}
use Rattle.cidr.specs.either.IpAddress.{IsIpText, address_family, plain_bits}
use Rattle.cidr.specs.either.IpNetwork.{network_family, network_prefix}
use Rattle.cidr.specs.model.Network.{width_of}
use Rattle.cidr.specs.declared.addr.ip.IpAddr.{IpAddr}
use Rattle.cidr.specs.declared.cidr.combined.IpCidr.{IpCidr}
use Rattle.cidr.specs.declared.family.Family.{Family}
use Rattle.cidr_ext.specs.texts.Reverse.{label_width}
use Rattle.cidr_ext.specs.texts.MaskText.{IsLengthOfMask}
use Rattle.cidr_ext.specs.texts.Zones.{zones_of}
use Rattle.cidr_lists.specs.Descriptions.{length_lines, mask_line}
use Rattle.cidr_lists.specs.Printing.{line}
use Rattle.netset_commands.specs.Single.{IsNumber}
use Rattle.netset_commands.specs.declared.commands.describe.Description.{Description}
use Rattle.netset_commands.specs.declared.commands.describe.Description.TheVariants.{Zones, Masks}

-- ---- zones
-- the least length from n on that ends at a label: at an octet in IPv4, at a nibble in IPv6
abbrev pub zone_length : Family → ℕ → ℕ
zone_length family n = (n + (label_width family - 1)) / label_width family * label_width family

-- the names of the zones of a network, ascending, one a line
abbrev pub zone_lines : IpCidr → List ℕ
zone_lines n =
    flat_map line (zones_of (network_family n) (network_prefix n) (zone_length (network_family n) (length (network_prefix n))))

-- ---- what is told
abbrev pub told_of : Description → IpCidr → List ℕ
told_of Zones network = zone_lines network
told_of Masks network = mask_line network

-- the string is an address that stands for this prefix length as a mask, or as a host mask that is no mask
abbrev pub IsMaskOfLength : List ℕ → ℕ → Type 0
IsMaskOfLength text n = (mask : IpAddr) × IsIpText text mask × IsLengthOfMask (width_of (address_family mask)) n (plain_bits mask)

-- the operand is a prefix length, of which the masks are told, or a mask, of which the length is, or it is none
abbrev pub IsOfLength : Description → List ℕ → List ℕ → Type 0
IsOfLength Zones operand answer = ⊥
IsOfLength Masks operand answer = (n : ℕ) × ((IsNumber operand n × (n ≤ 128) × (answer ≡ length_lines n)) ⊎ (IsMaskOfLength operand n × (answer ≡ line (decimal n))))

abbrev pub IsNoLength : Description → List ℕ → Type 0
IsNoLength Zones operand = Unit {0}
IsNoLength Masks operand = ((n : ℕ) → IsNumber operand n → 128 < n) × ((n : ℕ) → ¬ (IsMaskOfLength operand n))
