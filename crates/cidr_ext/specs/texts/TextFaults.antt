-- What is wrong with a string that is no network, no address and no range of addresses, as far as it can be told. A
-- string is the list of its bytes; a network, an address or a range of addresses has no such fault.
use Rattle.std.specs.Prelude.{◌≡◌, ℕ, Bool, true, not, ◌&&◌, ◌||◌, nat_lt, ◌==◌, List, length, slice_index, ◌++◌, codes, Option, MatchOption}
use Rattle.std.specs.Char.{is_ascii_hexdigit}
use Rattle.std.specs.List.{list_all, list_any, slice_split, before_first, after_first}
use Rattle.std.specs.Str.{all_ascii_digits}
use Rattle.std.specs.Str.Parse.{digits_value}
use Rattle.cidr.specs.model.Network.{width_of}
use Rattle.cidr.specs.either.IpAddress.{IsIpText, address_family, plain_bits}
use Rattle.cidr.specs.either.IpHost.{host_network}
use Rattle.cidr.specs.either.IpText.{IsIpHostText, IsIpNetworkText, ip_network_text}
use Rattle.cidr.specs.texts.Ipv4Text.{dot, digit_zero}
use Rattle.cidr.specs.texts.Ipv6Text.{colon}
use Rattle.cidr.specs.texts.NetworkText.{slash}
use Rattle.cidr.specs.texts.Printed.{plain_text}
use Rattle.cidr.specs.declared.addr.ip.IpAddr.{IpAddr}
use Rattle.cidr.specs.declared.cidr.combined.IpCidr.{IpCidr}
use Rattle.cidr.specs.declared.inet.combined.IpInet.{IpInet}
use Rattle.cidr_ext.specs.texts.MaskText.{IsLengthOfMask}
use Rattle.cidr_ext.specs.declared.group_faults.GroupFault.{GroupFault}
use Rattle.cidr_ext.specs.declared.group_faults.GroupFault.TheVariants as group
use Rattle.cidr_ext.specs.declared.text_faults.TextFault.{TextFault}
use Rattle.cidr_ext.specs.declared.text_faults.TextFault.TheVariants.{LeadingZero, NumberAbove255, NotFourOctets, LongGroup, MaskForLength, HostBits}

-- ---- the parts of a string
-- `b'-'`
abbrev pub hyphen : ℕ
hyphen = 45

abbrev pub is_byte : ℕ → ℕ → Bool
is_byte c byte = byte == c

-- what stands before the first slash, and what behind it
abbrev pub before_slash : List ℕ → List ℕ
before_slash text = before_first (is_byte slash) text

abbrev pub behind_slash : List ℕ → List ℕ
behind_slash text = after_first (is_byte slash) text

-- the addresses before the slash: of a range both ends
abbrev pub address_texts : List ℕ → List (List ℕ)
address_texts text = slice_split (is_byte hyphen) (before_slash text)

-- the groups of an address: what stands between its colons
abbrev pub group_texts : List ℕ → List (List ℕ)
group_texts address = slice_split (is_byte colon) address

-- the octets of a group: what stands between its dots
abbrev pub octet_texts : List ℕ → List (List ℕ)
octet_texts group = slice_split (is_byte dot) group

-- one decimal digit or more
abbrev pub is_number : List ℕ → Bool
is_number text = not (length text == 0) && all_ascii_digits text

-- decimal numbers joined by dots, as an address of IPv4 is, or the last group of one of IPv6 may be; a number alone is
-- one only in an address without colons
abbrev pub is_dotted : List ℕ → List ℕ → Bool
is_dotted address group =
    list_all is_number (octet_texts group) && (list_any (is_byte dot) group || not (list_any (is_byte colon) address))

-- ---- faults of a group of an address
-- an octet with a zero before other digits
abbrev pub begins_with_zero : List ℕ → Bool
begins_with_zero octet = nat_lt 1 (length octet) && (slice_index octet 0 == digit_zero)

abbrev pub has_leading_zero : List ℕ → List ℕ → Bool
has_leading_zero address group = is_dotted address group && list_any begins_with_zero (octet_texts group)

-- a number above 255
abbrev pub is_above_255 : List ℕ → Bool
is_above_255 octet = is_number octet && nat_lt 255 (digits_value 10 octet)

abbrev pub has_large_number : List ℕ → List ℕ → Bool
has_large_number address group = is_dotted address group && list_any is_above_255 (octet_texts group)

-- fewer or more than four octets
abbrev pub has_other_count : List ℕ → List ℕ → Bool
has_other_count address group = is_dotted address group && not (length (octet_texts group) == 4)

-- more than four hexadecimal digits
abbrev pub is_long : List ℕ → List ℕ → Bool
is_long address group =
    list_any (is_byte colon) address && (nat_lt 4 (length group) && list_all is_ascii_hexdigit group)

-- a group of an address of the string passes the test
abbrev pub some_group : (List ℕ → List ℕ → Bool) → List ℕ → Bool
some_group test text = list_any (λ address. list_any (test address) (group_texts address)) (address_texts text)

-- ---- faults of a string
-- the string is a network mask or a host mask (`MaskText`)
abbrev pub IsMask : List ℕ → Type 0
IsMask text = (mask : IpAddr) × (n : ℕ) × IsIpText text mask
    × IsLengthOfMask (width_of (address_family mask)) n (plain_bits mask)

-- the string has this fault; that of set host bits is one of a host that is no network, and has the network of the host
abbrev pub HasFault : List ℕ → TextFault → Type 0
HasFault text LeadingZero = some_group has_leading_zero text ≡ true
HasFault text NumberAbove255 = some_group has_large_number text ≡ true
HasFault text NotFourOctets = some_group has_other_count text ≡ true
HasFault text LongGroup = some_group is_long text ≡ true
HasFault text MaskForLength = IsMask (behind_slash text)
HasFault text (HostBits network) = (host : IpInet) × IsIpHostText text host × (network ≡ host_network host)
    × ((n : IpCidr) → ¬ (IsIpNetworkText text n))

-- the string has none of the faults that are told before this one: their order
abbrev pub HasNoneBefore : List ℕ → TextFault → Type 0
HasNoneBefore text LeadingZero = Unit {0}
HasNoneBefore text NumberAbove255 = ¬ (HasFault text LeadingZero)
HasNoneBefore text NotFourOctets = ¬ (HasFault text LeadingZero) × ¬ (HasFault text NumberAbove255)
HasNoneBefore text LongGroup =
    ¬ (HasFault text LeadingZero) × ¬ (HasFault text NumberAbove255) × ¬ (HasFault text NotFourOctets)
HasNoneBefore text MaskForLength =
    ¬ (HasFault text LeadingZero) × ¬ (HasFault text NumberAbove255) × ¬ (HasFault text NotFourOctets)
    × ¬ (HasFault text LongGroup)
HasNoneBefore text (HostBits network) =
    ¬ (HasFault text LeadingZero) × ¬ (HasFault text NumberAbove255) × ¬ (HasFault text NotFourOctets)
    × ¬ (HasFault text LongGroup) × ¬ (HasFault text MaskForLength)

-- the first fault of a string
abbrev pub IsFirstFault : List ℕ → TextFault → Type 0
IsFirstFault text fault = HasFault text fault × HasNoneBefore text fault

-- the string has none
abbrev pub HasNoFault : List ℕ → Type 0
HasNoFault text = (fault : TextFault) → ¬ (HasFault text fault)

-- the first fault of a string, if it has one
abbrev pub IsFaultOf : List ℕ → Option TextFault → Type 0
IsFaultOf text fault = MatchOption fault (HasNoFault text) (IsFirstFault text)

-- the message of a fault: this project's own
abbrev pub fault_message : TextFault → List ℕ
fault_message LeadingZero = codes "a leading zero in an octet"
fault_message NumberAbove255 = codes "a number above 255"
fault_message NotFourOctets = codes "not four octets"
fault_message LongGroup = codes "a group of more than four digits"
fault_message MaskForLength = codes "a mask in place of a length"
fault_message (HostBits network) = codes "host bits set; the network is " ++ ip_network_text plain_text network

-- ---- what private functions promise
-- the test of a fault of groups
abbrev pub group_test : GroupFault → List ℕ → List ℕ → Bool
group_test group.LeadingZero = has_leading_zero
group_test group.NumberAbove255 = has_large_number
group_test group.NotFourOctets = has_other_count
group_test group.LongGroup = is_long
