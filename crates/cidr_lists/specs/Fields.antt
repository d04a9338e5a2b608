-- The fields of a line: of one that is looked up, of one that is picked, and of a row of a table.
use Rattle.std.specs.Prelude.{ℕ, zero, suc, Bool, not, ◌&&◌, ◌==◌, List, [], Option, Some, None, ◌≡◌, ◌≢◌, length, drop, IsUtf8, Result, Ok, Err}
use Rattle.std.specs.Char.{is_ascii_whitespace}
use Rattle.std.specs.List.{after_first, before_first, prefix_len}
use Rattle.std.specs.Str.{IsTrimAscii}
use Rattle.cidr.specs.either.IpAddress.{IsIpText}
use Rattle.cidr.specs.either.IpText.{IsIpNetworkText}
use Rattle.cidr.specs.declared.addr.ip.IpAddr.{IpAddr}
use Rattle.cidr.specs.declared.cidr.combined.IpCidr.{IpCidr}
use Rattle.cidr_io.specs.Shown.{byte_excerpt}
use Rattle.cidr_lists.specs.ListLines.{IsFirstField, IsBadLineBy, IsField, IsNoAddressBy, IsNoNetworkBy, is_comment_sign}
use Rattle.cidr_lists.specs.Messages.{ShowsBy}
use Rattle.cidr_lists.specs.declared.errors.LineError.{LineError}
use Rattle.cidr_lists.specs.declared.lines.HostBits.TheVariants.{Refused}
use Rattle.cidr_lists.specs.declared.errors.LineError.TheVariants.{NotUtf8, NoNetwork, NoAddress, NoField}
use Rattle.cidr_lists.specs.declared.columns.Column.{Column}
use Rattle.cidr_lists.specs.declared.columns.Separator.{Separator}
use Rattle.cidr_lists.specs.declared.columns.Separator.TheVariants.{WhiteSpace, Byte}
use Rattle.cidr_lists.specs.declared.lines.HostBits.{HostBits}

-- the field is no network, and this is the error, with the field
abbrev pub IsNoNetworkField : HostBits → List ℕ → LineError → Type 0
IsNoNetworkField bits field (NotUtf8 text) = ¬ (IsUtf8 field) × (text.bytes ≡ byte_excerpt field)
IsNoNetworkField bits field (NoNetwork bad e) = IsNoNetworkBy bits field e × ShowsBy bits field bad
IsNoNetworkField bits field e = ⊥

-- ---- lines
-- the first field of a string, up to white space, and the rest without white space at both ends
abbrev pub AreFirstAndRest : List ℕ → List ℕ → List ℕ → Type 0
AreFirstAndRest field first rest = IsFirstField field first × IsTrimAscii (drop (length first) field) rest

-- those of a line without its comment, if there is anything
abbrev pub IsSplit : List ℕ → List ℕ → List ℕ → Type 0
IsSplit line first rest = (field : List ℕ) × IsField line field × (field ≢ []) × AreFirstAndRest field first rest

-- the first field is no address, and this is the error, with the field
abbrev pub IsNoAddressField : List ℕ → LineError → Type 0
IsNoAddressField first (NotUtf8 text) = ¬ (IsUtf8 first) × (text.bytes ≡ byte_excerpt first)
IsNoAddressField first (NoAddress bad e) = IsNoAddressBy first bad e
IsNoAddressField first e = ⊥

-- the line that is looked up is in error by its first field
abbrev pub HasBadAddress : List ℕ → LineError → Type 0
HasBadAddress line e = (first : List ℕ) × (rest : List ℕ) × IsSplit line first rest × IsNoAddressField first e

abbrev pub IsBadLine : List ℕ → LineError → Type 0
IsBadLine line e = IsBadLineBy HasBadAddress line e

-- the line says nothing, or its first field is this address
abbrev pub AddressSays : List ℕ → Option IpAddr → Type 0
AddressSays line None = IsField line []
AddressSays line (Some address) = (first : List ℕ) × (rest : List ℕ) × IsSplit line first rest × IsIpText first address

-- the same, or its error
abbrev pub ReadsAddress : List ℕ → Result (Option IpAddr) LineError → Type 0
ReadsAddress line (Ok said) = AddressSays line said
ReadsAddress line (Err e) = HasBadAddress line e

-- ---- a field by its place
-- the byte parts fields
abbrev pub separates : Separator → ℕ → Bool
separates WhiteSpace byte = is_ascii_whitespace byte
separates (Byte separator) byte = byte == separator

-- where the first field begins: behind white space at the front, where white space parts fields, and else at once
abbrev pub begin_of : Separator → List ℕ → List ℕ
begin_of WhiteSpace line = drop (prefix_len is_ascii_whitespace line) line
begin_of (Byte separator) line = line

-- what stands behind the first field and the byte that ends it
abbrev pub behind_field : Separator → List ℕ → List ℕ
behind_field separator line = after_first (separates separator) (begin_of separator line)

-- the field at an index, counted from 0: what stands before the next byte that parts fields; empty in a line of fewer fields
abbrev pub field_at : Separator → ℕ → List ℕ → List ℕ
field_at separator zero line = before_first (separates separator) (begin_of separator line)
field_at separator (suc place) line = field_at separator place (behind_field separator line)

-- the field of a column, without white space at both ends
abbrev pub IsFieldOf : Column → List ℕ → List ℕ → Type 0
IsFieldOf column line field = IsTrimAscii (field_at column.separator column.place line) field

-- the byte begins a comment: # or ;, unless it parts fields
abbrev pub begins_comment : Separator → ℕ → Bool
begins_comment separator byte = is_comment_sign byte && not (separates separator byte)

-- the line is blank or a comment as a whole, and has no fields; or it has some
abbrev pub HasNoFields : Separator → List ℕ → Type 0
HasNoFields separator line = (text : List ℕ) × IsTrimAscii line text × (before_first (begins_comment separator) text ≡ [])

abbrev pub HasFields : Separator → List ℕ → Type 0
HasFields separator line = (text : List ℕ) × IsTrimAscii line text × (before_first (begins_comment separator) text ≢ [])

-- the line has no fields, or the field of the column is this network
abbrev pub FieldSays : Column → List ℕ → Option IpCidr → Type 0
FieldSays column line None = HasNoFields column.separator line
FieldSays column line (Some network) = HasFields column.separator line × (field : List ℕ) × IsFieldOf column line field × IsIpNetworkText field network

-- the field of the column is missing or empty, or it is no network, and this is the error
abbrev pub IsBadField : Column → List ℕ → LineError → Type 0
IsBadField column line NoField = HasFields column.separator line × IsFieldOf column line []
IsBadField column line e =
    HasFields column.separator line × (field : List ℕ) × IsFieldOf column line field × (field ≢ []) × IsNoNetworkField Refused field e

-- what the field of a column says, or its error
abbrev pub ReadsColumn : Column → List ℕ → Result (Option IpCidr) LineError → Type 0
ReadsColumn column line (Ok said) = FieldSays column line said
ReadsColumn column line (Err e) = IsBadField column line e

-- the line has no fields, or the field of the column is this address
abbrev pub FieldIsAddress : Column → List ℕ → Option IpAddr → Type 0
FieldIsAddress column line None = HasNoFields column.separator line
FieldIsAddress column line (Some address) = HasFields column.separator line × (field : List ℕ) × IsFieldOf column line field × IsIpText field address

-- the field of the column is missing or empty, or it is no address, and this is the error
abbrev pub IsBadAddress : Column → List ℕ → LineError → Type 0
IsBadAddress column line NoField = HasFields column.separator line × IsFieldOf column line []
IsBadAddress column line e =
    HasFields column.separator line × (field : List ℕ) × IsFieldOf column line field × (field ≢ []) × IsNoAddressField field e
