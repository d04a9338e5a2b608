-- How a row of a table has a network and its value: as fields; as the files of routes and origins that CAIDA publishes
-- ("Routeviews Prefix-to-AS mappings", pfx2as); or as `ip route` of iproute2 prints routes (ip-route(8)).
use Rattle.std.specs.Prelude.{◌≡◌, ◌≢◌, ◌⊎◌, ◌==◌, ℕ, ◌^◌, ◌<◌, ◌≤◌, Bool, true, false, if◌then◌else◌, List, [], ◌∷◌, ◌++◌, codes, length, slice_index_or, take, ◌+◌, IsUtf8, Option, Some, None}
use Rattle.std.specs.List.{All}
use Rattle.std.specs.Str.{bytes_eq, IsTrimAscii}
use Rattle.std.specs.declared.cmp.Ordering.TheVariants.{Greater}
use Rattle.cidr.specs.either.IpAddress.{IsIpText, address_family, plain_bits}
use Rattle.cidr.specs.model.Bits.{bit_cmp}
use Rattle.cidr.specs.texts.NetworkText.{slash}
use Rattle.cidr.specs.texts.PrintedAddress.{ip_text}
use Rattle.cidr.specs.declared.addr.ip.IpAddr.{IpAddr}
use Rattle.cidr.specs.declared.cidr.combined.IpCidr.{IpCidr}
use Rattle.cidr.specs.declared.family.Family.{Family}
use Rattle.cidr.specs.declared.family.Family.TheVariants.{Ipv4, Ipv6}
use Rattle.cidr_io.specs.Shown.{byte_excerpt}
use Rattle.cidr_lists.specs.ListLines.{IsBadLineBy, IsNetworkBy, IsTooLong}
use Rattle.cidr_lists.specs.Fields.{AreFirstAndRest, HasFields, HasNoFields, IsFieldOf, IsNoAddressField, IsNoNetworkField, behind_field, field_at}
use Rattle.cidr_lists.specs.declared.columns.Column.{Column}
use Rattle.cidr_lists.specs.declared.columns.Separator.{Separator}
use Rattle.cidr_lists.specs.declared.columns.Separator.TheVariants.{WhiteSpace}
use Rattle.cidr_lists.specs.declared.errors.LineError.{LineError}
use Rattle.cidr_lists.specs.declared.errors.LineError.TheVariants.{NoField, NoLength, NotUtf8, Quoted, RangeRow}
use Rattle.cidr_lists.specs.declared.formats.LineFormat.{LineFormat}
use Rattle.cidr_lists.specs.declared.formats.LineFormat.TheVariants.{Plain, Json}
use Rattle.cidr_lists.specs.declared.forms.RowForm.{RowForm}
use Rattle.cidr_lists.specs.declared.forms.RowLayout.{RowLayout}
use Rattle.cidr_lists.specs.declared.forms.RowLayout.TheVariants.{Fields, Columns, Pfx2as, Routes}
use Rattle.cidr_lists.specs.declared.lines.HostBits.{HostBits}

-- what parts the fields of a row
abbrev pub separator_of : RowLayout → Separator
separator_of (Fields separator) = separator
separator_of (Columns columns) = columns.separator
separator_of layout = WhiteSpace

-- its fields have numbers of 64 bits, from 1 on
abbrev pub HasNumbers : RowLayout → Type 0
HasNumbers (Columns columns) = (columns.network + 1 < 2 ^ 64) × (columns.value + 1 < 2 ^ 64)
HasNumbers layout = Unit {0}

-- the fields of a row that are its network and its value, or else its first field and the rest of it, without white space at both
-- ends: a # or ; in them is a byte like any other
abbrev pub IsRowSplit : RowLayout → List ℕ → List ℕ → List ℕ → Type 0
IsRowSplit (Columns columns) line first rest =
    IsTrimAscii (field_at columns.separator columns.network line) first × IsTrimAscii (field_at columns.separator columns.value line) rest
IsRowSplit layout line first rest = IsTrimAscii (field_at (separator_of layout) 0 line) first × IsTrimAscii (behind_field (separator_of layout) line) rest

-- ---- the text of a network
-- of a route: `default` is the network of all addresses
abbrev pub default_text : Family → List ℕ
default_text Ipv4 = codes "0.0.0.0/0"
default_text Ipv6 = codes "::/0"

abbrev pub route_text : Family → List ℕ → List ℕ
route_text family first = if bytes_eq first (codes "default") then default_text family else first

-- of an address and a length in a field of its own
abbrev pub with_length : IpAddr → List ℕ → List ℕ
with_length address len = ip_text address ++ slash ∷ len

-- ---- a row
-- the field of the rest of a row at an index, counted from 0
abbrev pub place_at : Separator → ℕ → Column
place_at separator place = record { place = place; separator = separator }

-- the addresses are of one family, and the first is not above the other
abbrev pub IsUpTo : IpAddr → IpAddr → Type 0
IsUpTo a b = (address_family a ≡ address_family b) × (bit_cmp (plain_bits a) (plain_bits b) ≢ Greater)

-- the row is one of a range: its first field is an address, and behind it stand another one of its family, which is not below
-- it, and more
abbrev pub IsRangeRow : Separator → List ℕ → List ℕ → Type 0
IsRangeRow separator first rest = (a b : IpAddr) × (second third : List ℕ) × IsUtf8 first × IsIpText first a
    × IsFieldOf (place_at separator 0) rest second × IsUtf8 second × IsIpText second b × IsFieldOf (place_at separator 1) rest third
    × (third ≢ []) × IsUpTo a b

-- a network and its value, by these parts of a row
abbrev pub PartsSay : RowLayout → HostBits → List ℕ → List ℕ → IpCidr → List ℕ → Type 0
PartsSay Pfx2as bits first rest network value = (address : IpAddr) × (len : List ℕ) × IsIpText first address × AreFirstAndRest rest len value
    × IsNetworkBy bits (with_length address len) network
PartsSay (Fields separator) bits first rest network value = IsNetworkBy bits first network × (value ≡ rest) × ¬ (IsRangeRow separator first rest)
PartsSay (Routes family) bits first rest network value = IsNetworkBy bits (route_text family first) network × (value ≡ rest)
PartsSay layout bits first rest network value = IsNetworkBy bits first network × (value ≡ rest)

-- a value can be told in this format: a string of JSON is UTF-8
abbrev pub Fits : LineFormat → List ℕ → Type 0
Fits Plain value = Unit {0}
Fits Json value = IsUtf8 value

-- the values of rows can
abbrev pub AreFit : LineFormat → List (List Bool × List ℕ) → Type 0
AreFit format rows = All (λ (row : List Bool × List ℕ). Fits format row.1) rows

-- the line says nothing, being blank or a comment, or a network and its value
abbrev pub RowFieldsSay : RowForm → HostBits → List ℕ → Option (IpCidr × List ℕ) → Type 0
RowFieldsSay form bits line None = HasNoFields (separator_of form.layout) line
RowFieldsSay form bits line (Some (network, value)) = HasFields (separator_of form.layout) line × (first rest : List ℕ) × IsRowSplit form.layout line first rest
    × PartsSay form.layout bits first rest network value × Fits form.values value

-- the same of a line that is not too long
abbrev pub RowSays : RowForm → HostBits → List ℕ → Option (IpCidr × List ℕ) → Type 0
RowSays form bits line said = ¬ (IsTooLong line) × RowFieldsSay form bits line said

-- ---- a row in error
-- `b'"'`
abbrev pub begins_quoted : List ℕ → Bool
begins_quoted [] = false
begins_quoted (byte ∷ bytes) = byte == 34

-- the field of the network is missing or empty, or quoted, or else it is no network
abbrev pub IsBadCell : HostBits → List ℕ → LineError → Type 0
IsBadCell bits first NoField = first ≡ []
IsBadCell bits first (Quoted text) = (begins_quoted first ≡ true) × (text.bytes ≡ byte_excerpt first)
IsBadCell bits first e = (first ≢ []) × (begins_quoted first ≡ false) × IsNoNetworkField bits first e

-- the field of the length behind an address is missing; or it is longer than any length or mask; or else the two are no network
abbrev pub IsBadLength : HostBits → IpAddr → List ℕ → LineError → Type 0
IsBadLength bits address len NoField = len ≡ []
IsBadLength bits address len (NoLength text) = (45 < length len) × (text.bytes ≡ byte_excerpt len)
IsBadLength bits address len e = (len ≢ []) × (length len ≤ 45) × IsNoNetworkField bits (with_length address len) e

-- it is a range
abbrev pub IsBadRange : Separator → List ℕ → List ℕ → LineError → Type 0
IsBadRange separator first rest (RangeRow text) = IsRangeRow separator first rest × (text.bytes ≡ byte_excerpt first)
IsBadRange separator first rest e = ⊥

-- the row is in error by the field of its network, or else by the next ones
abbrev pub IsBadParts : RowLayout → HostBits → List ℕ → List ℕ → LineError → Type 0
IsBadParts Pfx2as bits first rest e = IsNoAddressField first e
    ⊎ ((address : IpAddr) × (len value : List ℕ) × IsIpText first address × AreFirstAndRest rest len value × IsBadLength bits address len e)
IsBadParts (Fields separator) bits first rest e = IsBadCell bits first e ⊎ IsBadRange separator first rest e
IsBadParts (Routes family) bits first rest e = IsNoNetworkField bits (route_text family first) e
IsBadParts layout bits first rest e = IsBadCell bits first e

-- or it has a network, and its value can't be told in this format
abbrev pub IsUnfit : LineFormat → List ℕ → LineError → Type 0
IsUnfit Json value (NotUtf8 text) = ¬ (IsUtf8 value) × (text.bytes ≡ byte_excerpt value)
IsUnfit format value e = ⊥

-- that of the first row whose value can't, by its number, from 1 on
abbrev pub IsUnfitAt : LineFormat → List (List Bool × List ℕ) → ℕ → LineError → Type 0
IsUnfitAt format rows number e =
    (i : ℕ) × (number ≡ i + 1) × (i < length rows) × AreFit format (take i rows) × IsUnfit format (slice_index_or rows i ([], [])).1 e

abbrev pub HasUnfitValue : RowForm → HostBits → List ℕ → List ℕ → LineError → Type 0
HasUnfitValue form bits first rest e = (network : IpCidr) × (value : List ℕ) × PartsSay form.layout bits first rest network value × IsUnfit form.values value e

abbrev pub HasRowError : RowForm → HostBits → List ℕ → LineError → Type 0
HasRowError form bits line e = HasFields (separator_of form.layout) line × (first rest : List ℕ) × IsRowSplit form.layout line first rest
    × (IsBadParts form.layout bits first rest e ⊎ HasUnfitValue form bits first rest e)

abbrev pub IsBadRow : RowForm → HostBits → List ℕ → LineError → Type 0
IsBadRow form bits line e = IsBadLineBy (HasRowError form bits) line e
