-- The longest network of a table that an address is in, and the value of that, as they are printed.
use Rattle.std.specs.Prelude.{ℕ, ◌-◌, ◌==◌, ◌≡◌, Bool, true, false, List, [], ◌∷◌, ◌++◌, codes, drop, is_some, length, take, Option, Some, None, option_map, MatchResult, Result}
use Rattle.std.specs.List.{AllZip, flat_map, list_any, suffix_len}
use Rattle.cidr.specs.either.IpAddress.{address_family, plain_bits}
use Rattle.cidr.specs.texts.Printed.{plain_text}
use Rattle.cidr.specs.texts.PrintedAddress.{ip_text}
use Rattle.cidr.specs.declared.addr.ip.IpAddr.{IpAddr}
use Rattle.cidr.specs.declared.family.Family.{Family}
use Rattle.cidr_table.specs.model.Prefixes.{IsLookedUp}
use Rattle.cidr_lists.specs.Formats.{json, network_by}
use Rattle.cidr_lists.specs.Json.{string_text}
use Rattle.cidr_lists.specs.Lists.{IsBadLineBy, IsTooLong, lines_of}
use Rattle.cidr_lists.specs.Lines.{lines_in}
use Rattle.cidr_lists.specs.Printing.{line}
use Rattle.cidr_lists.specs.Fields.{AddressSays, FieldIsAddress, HasBadAddress, IsBadAddress}
use Rattle.cidr_lists.specs.Words.{IsFirstAddress}
use Rattle.cidr_lists.specs.declared.columns.Separator.{Separator}
use Rattle.cidr_lists.specs.declared.columns.Separator.TheVariants.{WhiteSpace, Byte}
use Rattle.cidr_lists.specs.declared.errors.LineError.{LineError}
use Rattle.cidr_lists.specs.declared.fields.Asked.{Asked}
use Rattle.cidr_lists.specs.declared.fields.Asked.TheVariants.{First, Field, Anywhere}
use Rattle.cidr_lists.specs.declared.formats.LineFormat.{LineFormat}
use Rattle.cidr_lists.specs.declared.formats.LineFormat.TheVariants as by_line
use Rattle.cidr_lists.specs.declared.formats.Notation.TheVariants.{Members}
use Rattle.cidr_lists.specs.declared.objects.Telling.{Telling}
use Rattle.cidr_lists.specs.declared.objects.Telling.TheVariants.{Alone, Kept, Objects}

-- an address, and the longest network of a table that has it, with its value, if there is one
pub record LookUp : Type 0 where
  pub address : IpAddr
  pub found : Option (List Bool × List ℕ)

-- ---- the address of a line
-- the line has no address, or this one: that of its first field, before a comment, that of a field by its place, or the first
-- anywhere
abbrev pub SaysAsked : Asked → List ℕ → Option IpAddr → Type 0
SaysAsked First line said = AddressSays line said
SaysAsked (Field column) line said = FieldIsAddress column line said
SaysAsked Anywhere line said = IsFirstAddress line said

-- that field is no address, and this is the error; anywhere in a line nothing has to be an address
abbrev pub HasBadAsked : Asked → List ℕ → LineError → Type 0
HasBadAsked First line e = HasBadAddress line e
HasBadAsked (Field column) line e = IsBadAddress column line e
HasBadAsked Anywhere line e = ⊥

-- the same of a line that may be too long
abbrev pub IsBadAsked : Asked → List ℕ → LineError → Type 0
IsBadAsked asked line e = IsBadLineBy (HasBadAsked asked) line e

-- the address, if there is one, or the error
abbrev pub ReadsAsked : Asked → List ℕ → Result (Option IpAddr) LineError → Type 0
ReadsAsked asked line r = MatchResult r (SaysAsked asked line) (HasBadAsked asked line)

-- the line has no address, or one, which was looked up in the table
abbrev pub FieldLooks : Asked → (Family → List (List Bool × List ℕ)) → List ℕ → Option LookUp → Type 0
FieldLooks asked table line None = SaysAsked asked line None
FieldLooks asked table line (Some look) = SaysAsked asked line (Some look.address)
    × IsLookedUp (λ (p : List Bool). p) (plain_bits look.address) (table (address_family look.address)) look.found

-- the same of a line that is not too long
abbrev pub LineLooks : Asked → (Family → List (List Bool × List ℕ)) → List ℕ → Option LookUp → Type 0
LineLooks asked table line look = ¬ (IsTooLong line) × FieldLooks asked table line look

-- ---- what is written of it
-- what stands in front of a value, if there is one
abbrev pub gap : ℕ → List ℕ → List ℕ
gap joint [] = []
gap joint (b ∷ bs) = joint ∷ []

-- an address, its network and the value of that; or - where it has no network
abbrev pub found_line : List ℕ → Option (List ℕ × List ℕ) → List ℕ
found_line address None = address ++ codes " -\n"
found_line address (Some (network, value)) = address ++ (codes " " ++ (network ++ (gap 32 value ++ (value ++ codes "\n"))))

-- the network as it is printed
abbrev pub printed_row : Family → List Bool × List ℕ → List ℕ × List ℕ
printed_row family (p, value) = (plain_text family p, value)

-- the line that is written for a line, if it has an address
abbrev pub look_line : Option LookUp → List ℕ
look_line None = []
look_line (Some look) = found_line (ip_text look.address) (option_map (printed_row (address_family look.address)) look.found)

-- whether the address has a network
abbrev pub is_found : Option LookUp → Bool
is_found None = false
is_found (Some look) = is_some look.found

-- ---- lines that are kept
-- what is written between the fields of a line
abbrev pub joint_by : Separator → ℕ
joint_by WhiteSpace = 32
joint_by (Byte separator) = separator

abbrev pub joint_of : Asked → ℕ
joint_of First = 32
joint_of (Field column) = joint_by column.separator
joint_of Anywhere = 32

-- a line without the carriage returns at its end, which CRLF leaves there
abbrev pub without_returns : List ℕ → List ℕ
without_returns line = take (length line - suffix_len (λ byte. byte == 13) line) line

-- and these
abbrev pub returns_of : List ℕ → List ℕ
returns_of line = drop (length (without_returns line)) line

-- the line, and behind its fields the network and the value of that; or the line alone where there is none
abbrev pub kept_line : ℕ → List ℕ → Option (List ℕ × List ℕ) → List ℕ
kept_line joint line None = line ++ codes "\n"
kept_line joint line (Some (network, value)) =
    without_returns line ++ (joint ∷ (network ++ (gap joint value ++ (value ++ (returns_of line ++ codes "\n")))))

-- ---- objects of JSON (RFC 8259)
-- what stands in front of the network of an address: the address, and the value of the network
abbrev pub object_front : List ℕ → List ℕ → List ℕ
object_front address value = codes "{\"address\":\"" ++ (address ++ (codes "\",\"value\":\"" ++ (string_text value ++ codes "\",\"network\":\"")))

-- the object of an address, with its network and the value of that; or null for both
abbrev pub found_object : Family → List ℕ → Option (List Bool × List ℕ) → List ℕ
found_object family address None = codes "{\"address\":\"" ++ (address ++ codes "\",\"value\":null,\"network\":null}")
found_object family address (Some (p, value)) = object_front address value ++ (network_by Members family p ++ (json family).behind)

-- the line that is written for a line, if it has an address
abbrev pub look_object : Option LookUp → List ℕ
look_object None = []
look_object (Some look) = line (found_object (address_family look.address) (ip_text look.address) look.found)

-- ---- lines one behind the other
-- the network that was found, as it is printed, with its value
abbrev pub printed_found : Option LookUp → Option (List ℕ × List ℕ)
printed_found None = None
printed_found (Some look) = option_map (printed_row (address_family look.address)) look.found

-- how it is told: as objects of JSON, or else with --keep with its line
abbrev pub telling_by : LineFormat → Bool → Telling
telling_by by_line.Json keeps = Objects
telling_by by_line.Plain true = Kept
telling_by by_line.Plain false = Alone

-- what is written of a line: a line for its address, the line with the network of its address, or an object for its address
abbrev pub told_line : Telling → Asked → List ℕ → Option LookUp → List ℕ
told_line Alone asked line look = look_line look
told_line Kept asked line look = kept_line (joint_of asked) line (printed_found look)
told_line Objects asked line look = look_object look

-- a line has this written of it, and its address has a network or not
abbrev pub LineTells : Telling → Asked → (Family → List (List Bool × List ℕ)) → List ℕ → List ℕ × Bool → Type 0
LineTells telling asked table line told = (look : Option LookUp) × LineLooks asked table line look
    × (told.0 ≡ told_line telling asked line look) × (told.1 ≡ is_found look)

-- the same of lines, and whether the address of one of them has
abbrev pub LinesTell : Telling → Asked → (Family → List (List Bool × List ℕ)) → List (List ℕ) → List ℕ × Bool → Type 0
LinesTell telling asked table lines told = (each : List (List ℕ × Bool)) × AllZip (LineTells telling asked table) lines each
    × (told.0 ≡ flat_map (λ (one : List ℕ × Bool). one.0) each) × (told.1 ≡ list_any (λ (one : List ℕ × Bool). one.1) each)

-- the lines of a text; where lines alone are told, also an empty part behind the last line feed, of which nothing is written
abbrev pub lines_by : Telling → List ℕ → List (List ℕ)
lines_by Alone text = lines_of text
lines_by Kept text = lines_in text
lines_by Objects text = lines_in text
