-- What is wrong with a string that is no network and no address, as far as it can be told: beyond what it has by `TextFaults` of
-- `cidr_ext`, what else it is.
use Rattle.std.specs.Prelude.{◌≡◌, ◌⊎◌, ◌==◌, ◌&&◌, ℕ, Bool, true, false, if◌then◌else◌, List, ◌∷◌, ◌++◌, codes, Option, Some, None}
use Rattle.std.specs.Str.{IsTrimAscii}
use Rattle.cidr.specs.either.IpAddress.{IsIpText}
use Rattle.cidr.specs.either.IpHost.{host_address, host_network, host_parts}
use Rattle.cidr.specs.either.IpText.{IsIpHostText}
use Rattle.cidr.specs.texts.NetworkText.{slash}
use Rattle.cidr.specs.texts.PrintedAddress.{ip_text}
use Rattle.cidr.specs.texts.Refusal.{Lacks}
use Rattle.cidr.specs.declared.addr.ip.IpAddr.{IpAddr}
use Rattle.cidr.specs.declared.inet.combined.IpInet.{IpInet}
use Rattle.cidr_ext.specs.texts.TextFaults.{HasNoFault, IsFirstFault, fault_message, hyphen}
use Rattle.cidr_ext.specs.declared.text_faults.TextFault.TheVariants.{MaskForLength, HostBits}
use Rattle.cidr_lists.specs.Masks.{IsMaskedHost}
use Rattle.cidr_lists.specs.declared.wrong.Wrong.{Wrong}
use Rattle.cidr_lists.specs.declared.wrong.Wrong.TheVariants.{ByteOrderMark, Text, NoMask, Range, MoreBehind, EitherMask}

-- ---- what a string is
-- its first three bytes are U+FEFF in UTF-8
abbrev pub begins_with_mark : List ℕ → Bool
begins_with_mark (a ∷ b ∷ c ∷ text) = (a == 0xef) && ((b == 0xbb) && (c == 0xbf))
begins_with_mark text = false

abbrev pub IsAddress : List ℕ → Type 0
IsAddress text = (a : IpAddr) × IsIpText text a

-- without white space at both ends
abbrev pub IsSpacedAddress : List ℕ → Type 0
IsSpacedAddress text = (end : List ℕ) × IsTrimAscii text end × IsAddress end

abbrev pub IsHost : List ℕ → Type 0
IsHost text = (h : IpInet) × IsIpHostText text h

abbrev pub IsAnything : List ℕ → Type 0
IsAnything text = Unit {0}

-- one thing stands before the first of this byte, and another behind it
abbrev pub StandAround : ℕ → (List ℕ → Type 0) → (List ℕ → Type 0) → List ℕ → Type 0
StandAround c Front Back text =
    (front : List ℕ) × (back : List ℕ) × (text ≡ front ++ c ∷ back) × Lacks c front × Front front × Back back

-- an address behind a slash, which is no mask where it is wrong; a range; and more than a network or an address, behind a
-- space or a tab
abbrev pub HasAddressBehind : List ℕ → Type 0
HasAddressBehind text = StandAround slash IsAnything IsAddress text

abbrev pub IsRange : List ℕ → Type 0
IsRange text = StandAround hyphen IsSpacedAddress IsSpacedAddress text

abbrev pub HasMoreBehind : List ℕ → Type 0
HasMoreBehind text = StandAround 32 IsHost IsAnything text ⊎ StandAround 9 IsHost IsAnything text

-- ---- what is told of it, if anything is: the first of these that holds
abbrev pub IsWrong : List ℕ → Option Wrong → Type 0
IsWrong text (Some ByteOrderMark) = begins_with_mark text ≡ true
IsWrong text (Some (Text fault)) = (begins_with_mark text ≡ false) × IsFirstFault text fault
IsWrong text (Some NoMask) = (begins_with_mark text ≡ false) × HasNoFault text × HasAddressBehind text
IsWrong text (Some Range) = (begins_with_mark text ≡ false) × HasNoFault text × ¬ (HasAddressBehind text) × IsRange text
IsWrong text (Some MoreBehind) =
    (begins_with_mark text ≡ false) × HasNoFault text × ¬ (HasAddressBehind text) × ¬ (IsRange text) × HasMoreBehind text
IsWrong text (Some other) = ⊥
IsWrong text None =
    (begins_with_mark text ≡ false) × HasNoFault text × ¬ (HasAddressBehind text) × ¬ (IsRange text) × ¬ (HasMoreBehind text)

-- ---- where masks are read
-- a mask in place of a length is nothing wrong
abbrev pub but_a_mask : Option Wrong → Option Wrong
but_a_mask (Some (Text MaskForLength)) = None
but_a_mask wrong = wrong

-- of a host by an address and a mask: set host bits, or a mask that is a network mask of no bit as well as a host mask of all
abbrev pub wrong_behind : IpInet → Wrong
wrong_behind host = if (host_parts host).len == 0 then EitherMask host else Text (HostBits (host_network host))

-- the string is such a host, or else an address stands behind its first space and is no mask, or else it is told as above
abbrev pub IsWrongWithMasks : List ℕ → Option Wrong → Type 0
IsWrongWithMasks text wrong = ((host : IpInet) × IsMaskedHost text host × (wrong ≡ Some (wrong_behind host)))
    ⊎ (((host : IpInet) → ¬ (IsMaskedHost text host)) × StandAround 32 IsAnything IsAddress text × (wrong ≡ Some NoMask))
    ⊎ (((host : IpInet) → ¬ (IsMaskedHost text host)) × ¬ (StandAround 32 IsAnything IsAddress text)
    × (first : Option Wrong) × IsWrong text first × (wrong ≡ but_a_mask first))

-- ---- messages
abbrev pub wrong_message : Wrong → List ℕ
wrong_message ByteOrderMark = codes "a byte order mark in front"
wrong_message (Text fault) = fault_message fault
wrong_message NoMask = codes "no contiguous mask of its family"
wrong_message Range = codes "a range of addresses"
wrong_message MoreBehind = codes "more than a network or an address"
wrong_message (EitherMask host) = codes "/0 by a network mask, " ++ ip_text (host_address host) ++ codes " by a wildcard"

-- it is wrong of a prefix length, which an address has not
abbrev pub is_of_length : Wrong → Bool
is_of_length (Text MaskForLength) = true
is_of_length (Text (HostBits network)) = true
is_of_length NoMask = true
is_of_length (EitherMask host) = true
is_of_length wrong = false
