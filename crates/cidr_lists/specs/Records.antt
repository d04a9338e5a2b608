-- A line of the files in which the Internet registries publish what they have delegated ("RIR statistics exchange format", as
-- apnic.net and ripe.net have it): fields with | between them, of which the third is the type, the fourth the first address,
-- the fifth for IPv4 how many addresses there are, and for IPv6 the prefix length, and the seventh the status.
use Rattle.std.specs.Prelude.{◌≡◌, ◌≢◌, ◌⊎◌, ℕ, ◌+◌, ◌<◌, ◌≤◌, ◌^◌, Bool, true, false, List, [], ◌∷◌, codes, map, IsUtf8}
use Rattle.std.specs.Char.{to_ascii_lowercase}
use Rattle.std.specs.Int.{is_in_range}
use Rattle.std.specs.Str.Parse.{IsNumeral, digits_value, without_leading_plus}
use Rattle.cidr.specs.either.IpAddress.{IsIpText, address_family}
use Rattle.cidr.specs.model.Bits.{bits, number}
use Rattle.cidr.specs.declared.addr.ip.IpAddr.{IpAddr}
use Rattle.cidr.specs.declared.addr.ip.IpAddr.TheVariants as address
use Rattle.cidr.specs.declared.cidr.combined.IpCidr.{IpCidr}
use Rattle.cidr.specs.declared.family.Family.{Family}
use Rattle.cidr.specs.declared.family.Family.TheVariants.{Ipv4, Ipv6}
use Rattle.cidr_io.specs.Shown.{byte_excerpt}
use Rattle.cidr_lists.specs.Fields.{HasFields, HasNoFields, IsFieldOf, IsNoAddressField}
use Rattle.cidr_lists.specs.Forms.{IsBadLength, with_length}
use Rattle.cidr_lists.specs.ListLines.{AreContentNetworks, IsBadLineBy, IsNetworkBy, IsTooLong}
use Rattle.cidr_lists.specs.declared.columns.Column.{Column}
use Rattle.cidr_lists.specs.declared.columns.Separator.{Separator}
use Rattle.cidr_lists.specs.declared.columns.Separator.TheVariants.{Byte}
use Rattle.cidr_lists.specs.declared.errors.LineError.{LineError}
use Rattle.cidr_lists.specs.declared.errors.LineError.TheVariants.{NoCount, NoField, NoType, NotUtf8, OtherType}
use Rattle.cidr_lists.specs.declared.lines.Content.{Content}
use Rattle.cidr_lists.specs.declared.lines.Content.TheVariants.{Blank, Network, Ipv4Range}
use Rattle.cidr_lists.specs.declared.lines.HostBits.TheVariants.{Refused}
use Rattle.cidr_lists.specs.declared.records.RecordType.{RecordType}
use Rattle.cidr_lists.specs.declared.records.RecordType.TheVariants.{Addresses, AsNumbers}

-- `b'|'`
abbrev pub bar : Separator
bar = Byte 124

-- the field of a record at an index, counted from 0
abbrev pub record_column : ℕ → Column
record_column place = record { place = place; separator = bar }

-- the line is a record with these fields
abbrev pub IsRecord : List ℕ → List ℕ → List ℕ → List ℕ → List ℕ → List ℕ → Type 0
IsRecord line registry kind start value status = HasFields bar line × IsFieldOf (record_column 0) line registry
    × IsFieldOf (record_column 2) line kind × IsFieldOf (record_column 3) line start × IsFieldOf (record_column 4) line value
    × IsFieldOf (record_column 6) line status × (value ≢ [])

-- the first line has a version where others have the registry
abbrev pub is_version : List ℕ → Bool
is_version [] = false
is_version (byte ∷ bytes) = is_in_range 48 57 byte

-- the field is this word, in letters of either case
abbrev pub IsWord : List ℕ → List ℕ → Type 0
IsWord word field = map to_ascii_lowercase field ≡ word

-- the field of a type is this one
abbrev pub IsType : List ℕ → RecordType → Type 0
IsType field (Addresses Ipv4) = IsWord (codes "ipv4") field
IsType field (Addresses Ipv6) = IsWord (codes "ipv6") field
IsType field AsNumbers = IsWord (codes "asn") field

-- nothing is delegated: the record is a summary, which has * for a first address, or says what is left
abbrev pub IsNoDelegation : List ℕ → List ℕ → Type 0
IsNoDelegation start status = (start ≡ codes "*") ⊎ IsWord (codes "available") status ⊎ IsWord (codes "reserved") status

-- the record says nothing: it is the first line, of autonomous systems, or no delegation
abbrev pub SaysNothing : List ℕ → List ℕ → List ℕ → List ℕ → Type 0
SaysNothing registry kind start status = (is_version registry ≡ true) ⊎ IsType kind AsNumbers
    ⊎ ((family : Family) × IsType kind (Addresses family) × IsNoDelegation start status)

-- the line delegates addresses of this family
abbrev pub IsDelegation : List ℕ → Family → List ℕ → List ℕ → Type 0
IsDelegation line family start value = (registry kind status : List ℕ) × IsRecord line registry kind start value status
    × (is_version registry ≡ false) × IsType kind (Addresses family) × ¬ (IsNoDelegation start status)

-- the string is this number in decimal, perhaps with a plus in front
abbrev pub IsCount : List ℕ → ℕ → Type 0
IsCount text n = IsNumeral 10 (without_leading_plus text) × (n ≡ digits_value 10 (without_leading_plus text))

-- so many IPv4 addresses from the first on end at this one
abbrev pub EndsAt : List Bool → ℕ → List Bool → Type 0
EndsAt first count last = (end : ℕ) × (number first + count ≡ end + 1) × (number first ≤ end) × (end < 2 ^ 32) × (last ≡ bits 32 end)

-- what a first address and a value say: so many addresses, or a network
abbrev pub IsDelegated : Family → List ℕ → List ℕ → Content → Type 0
IsDelegated Ipv6 start value (Network network) = (a : List Bool) × IsIpText start (address.V6 a) × IsNetworkBy Refused (with_length (address.V6 a) value) network
IsDelegated Ipv4 start value (Ipv4Range first last) = (count : ℕ) × IsIpText start (address.V4 first) × IsCount value count × EndsAt first count last
IsDelegated family start value content = ⊥

-- what the line says: nothing, being blank, a comment or such a record; or what it delegates
abbrev pub IsRecordContent : List ℕ → Content → Type 0
IsRecordContent line Blank = HasNoFields bar line
    ⊎ ((registry kind start value status : List ℕ) × IsRecord line registry kind start value status × SaysNothing registry kind start status)
IsRecordContent line content = (family : Family) × (start value : List ℕ) × IsDelegation line family start value × IsDelegated family start value content

-- its networks
abbrev pub RecordSays : List ℕ → List IpCidr → Type 0
RecordSays line said = ¬ (IsTooLong line) × (content : Content) × IsRecordContent line content × AreContentNetworks content said

-- ---- a record in error
-- the value is not UTF-8; or else it is no number of addresses, or there are not so many from the first one on
abbrev pub IsBadCount : List Bool → List ℕ → LineError → Type 0
IsBadCount first value (NotUtf8 text) = ¬ (IsUtf8 value) × (text.bytes ≡ byte_excerpt value)
IsBadCount first value (NoCount text) = IsUtf8 value × ((count : ℕ) → IsCount value count → (count ≡ 0) ⊎ (2 ^ 32 < number first + count))
    × (text.bytes ≡ byte_excerpt value)
IsBadCount first value e = ⊥

-- the first address is one of the other family
abbrev pub IsOfOther : Family → List ℕ → LineError → Type 0
IsOfOther family start (OtherType text) = (a : IpAddr) × IsIpText start a × (address_family a ≢ family) × (text.bytes ≡ byte_excerpt start)
IsOfOther family start e = ⊥

-- the first address is none, or one of the other family; or the value is wrong for it
abbrev pub IsBadDelegation : Family → List ℕ → List ℕ → LineError → Type 0
IsBadDelegation family start value e = IsNoAddressField start e ⊎ IsOfOther family start e
    ⊎ ((family ≡ Ipv4) × (first : List Bool) × IsIpText start (address.V4 first) × IsBadCount first value e)
    ⊎ ((family ≡ Ipv6) × (a : List Bool) × IsIpText start (address.V6 a) × IsBadLength Refused (address.V6 a) value e)

-- the field is no type
abbrev pub IsBadType : List ℕ → LineError → Type 0
IsBadType kind (NoType text) = ((one : RecordType) → ¬ (IsType kind one)) × (text.bytes ≡ byte_excerpt kind)
IsBadType kind e = ⊥

-- the line has no fifth field, or it is empty; or else it is not the first line and has no type; or it delegates addresses, and
-- these are wrong
abbrev pub HasBadFields : List ℕ → LineError → Type 0
HasBadFields line e = (HasFields bar line × IsFieldOf (record_column 4) line [] × (e ≡ NoField))
    ⊎ ((registry kind start value status : List ℕ) × IsRecord line registry kind start value status × (is_version registry ≡ false) × IsBadType kind e)
    ⊎ ((family : Family) × (start value : List ℕ) × IsDelegation line family start value × IsBadDelegation family start value e)

abbrev pub IsBadRecord : List ℕ → LineError → Type 0
IsBadRecord line e = IsBadLineBy HasBadFields line e
