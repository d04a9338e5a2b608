-- Why a table or a list is not read, where it may be a file of look-ups, which `compile` writes.
use Rattle.std.specs.Prelude.{◌≡◌, ◌⊎◌, ℕ, suc, Bool, true, false, List, [], ◌∷◌, Option, Some, None, Result, Ok, Err}
use Rattle.cidr.specs.declared.family.Family.{Family}
use Rattle.cidr.specs.declared.family.Family.TheVariants.{Ipv4, Ipv6}
use Rattle.cidr_lookup.specs.Keys.{prefix_bits}
use Rattle.cidr_files.specs.Faults.{IsFaultOfBytes}
use Rattle.cidr_files.specs.Layout.{wide_words, words}
use Rattle.cidr_files.specs.Tables.{IsStoredTable, parts_in, stored_networks, value_in}
use Rattle.cidr_files.specs.declared.faults.FileFault.{FileFault}
use Rattle.cidr_files.specs.declared.faults.FileFault.TheVariants as fault
use Rattle.cidr_files.specs.declared.faults.TableFault.{TableFault}
use Rattle.cidr_files.specs.declared.faults.TableFault.TheVariants as in_table
use Rattle.cidr_files.specs.declared.layout.FileTables.{FileTables}
use Rattle.cidr_lookup.specs.declared.checking.WordsFault.{WordsFault}
use Rattle.cidr_lookup.specs.declared.checking.WordsFault.TheVariants as in_words
use Rattle.cidr_lookup.specs.declared.table.TableError.{TableError}
use Rattle.cidr_lookup.specs.declared.table.TableError.TheVariants as keys
use Rattle.cidr_lists.specs.declared.errors.LineError.{LineError}
use Rattle.cidr_lists.specs.declared.formats.LineFormat.{LineFormat}
use Rattle.cidr_lists.specs.declared.forms.RowForm.{RowForm}
use Rattle.cidr_lists.specs.Forms.{AreFit, IsUnfitAt}
use Rattle.cidr_lists.specs.Lists.{Text}
use Rattle.netset_commands.specs.Compiled.{HasTable, begins_file}
use Rattle.netset_commands.specs.Look.{IsUnreadTable}
use Rattle.netset_commands.specs.declared.errors.CommandError.{CommandError}
use Rattle.netset_commands.specs.declared.errors.CommandError.TheVariants as error
use Rattle.netset_commands.specs.declared.errors.FileError.{FileError}
use Rattle.netset_commands.specs.declared.errors.FileError.TheVariants.{Unlike, Old, Version, Short, Long, Changed}

-- how it is told what is wrong with the keys of a table in a file, or that there was no memory to see
abbrev pub keys_error_of : TableError → Option FileError
keys_error_of keys.NoMemory = None
keys_error_of e = Some Changed

-- the same of its words
abbrev pub words_error_of : WordsFault → Option FileError
words_error_of (in_words.Keys e) = keys_error_of e
words_error_of f = Some Changed

-- the same of the table
abbrev pub table_error_of : TableFault → Option FileError
table_error_of (in_table.Words f) = words_error_of f
table_error_of in_table.Offsets = Some Changed

-- the same of a file
abbrev pub file_error_of : FileFault → Option FileError
file_error_of fault.Magic = Some Unlike
file_error_of fault.Old = Some Old
file_error_of (fault.Version other) = Some Version
file_error_of fault.Short = Some Short
file_error_of fault.Long = Some Long
file_error_of (fault.Ipv4 f) = table_error_of f
file_error_of (fault.Ipv6 f) = table_error_of f

-- why a file is not read that may be one of look-ups: it begins as one and has a fault; or this says why, where a line is in
-- error only in a file that does not begin as one
abbrev pub IsNotGiven : (CommandError → Type 0) → Option Text → List ℕ → CommandError → Type 0
IsNotGiven IsOther contents name (error.File file why) = (file.now ≡ name) × (f : FileFault) × (file_error_of f ≡ Some why)
    × ((text : Text) → contents ≡ Some text → (begins_file text.bytes ≡ true) × IsFaultOfBytes text.bytes f)
IsNotGiven IsOther contents name (error.Line file number e) = IsOther (error.Line file number e)
    × ((text : Text) → contents ≡ Some text → begins_file text.bytes ≡ false)
IsNotGiven IsOther contents name e = IsOther e

-- the same of a table
abbrev pub IsNoTable : RowForm → Option Text → List ℕ → CommandError → Type 0
IsNoTable form contents name e = IsNotGiven (IsUnreadTable form contents name) contents name e

-- the row of this number among those of its family, from 1 on, is the first whose value can't be told in the format, where
-- those of IPv4 come first
abbrev pub IsUnfitIn : LineFormat → (Family → List (List Bool × List ℕ)) → ℕ → LineError → Type 0
IsUnfitIn format table number e =
    IsUnfitAt format (table Ipv4) number e ⊎ (AreFit format (table Ipv4) × IsUnfitAt format (table Ipv6) number e)

-- that of a file of look-ups
abbrev pub HasUnfitRow : RowForm → Option Text → List ℕ → CommandError → Type 0
HasUnfitRow form contents name (error.Line file number e) = (file.now ≡ name) × ((text : Text) → contents ≡ Some text
    → (table : Family → List (List Bool × List ℕ)) × HasTable table text.bytes × IsUnfitIn form.values table number e)
HasUnfitRow form contents name e = ⊥

-- ---- what private functions promise
-- the rows of a table in a file, from one on that has this place: each network by its bits, and its value
abbrev pub rows_from : ℕ → (ℕ → List ℕ) → List (ℕ × ℕ) → ℕ → List (List Bool × List ℕ)
rows_from w value [] place = []
rows_from w value (network ∷ networks) place = (prefix_bits w network, value place) ∷ rows_from w value networks (suc place)

-- all of them
abbrev pub stored_rows : ℕ → (List ℕ → List ℕ) → List (List ℕ) → List (List Bool × List ℕ)
stored_rows w numbers parts = rows_from w (value_in parts) (stored_networks numbers parts) 0

-- those of IPv4 and those of IPv6
abbrev pub file_rows : FileTables → List (List Bool × List ℕ) × List (List Bool × List ℕ)
file_rows table = (stored_rows 32 words (parts_in table.ipv4), stored_rows 128 wide_words (parts_in table.ipv6))

-- the same by the family
abbrev pub by_family : List (List Bool × List ℕ) × List (List Bool × List ℕ) → Family → List (List Bool × List ℕ)
by_family rows Ipv4 = rows.0
by_family rows Ipv6 = rows.1

-- the parts of a file are tables
pub record AreTables (table : FileTables) : Type 0 where
  pub ipv4 : IsStoredTable 32 4 words (parts_in table.ipv4) table.ipv4.steps
  pub ipv6 : IsStoredTable 128 2 wide_words (parts_in table.ipv6) table.ipv6.steps

-- these are the bytes of a file that begins as one of look-ups
abbrev pub AreFileBytes : Option Text → List ℕ → Type 0
AreFileBytes contents bytes = (text : Text) → contents ≡ Some text → (begins_file text.bytes ≡ true) × (bytes ≡ text.bytes)

-- this is told of bytes that are no file of look-ups
abbrev pub IsFaultTold : List ℕ → FileError → Type 0
IsFaultTold bytes why = (f : FileFault) × IsFaultOfBytes bytes f × (file_error_of f ≡ Some why)

-- the tables of a file of these bytes; or why it is none, or memory
abbrev pub ChecksFile : List ℕ → List ℕ → Result (List (List Bool × List ℕ) × List (List Bool × List ℕ)) CommandError → Type 0
ChecksFile name bytes (Ok rows) = HasTable (by_family rows) bytes
ChecksFile name bytes (Err (error.File file why)) = (file.now ≡ name) × IsFaultTold bytes why
ChecksFile name bytes (Err e) = e ≡ error.NoMemory

-- the error of a row that can't be told in a format, in the file of a name
abbrev pub TellsUnfit : LineFormat → (Family → List (List Bool × List ℕ)) → List ℕ → CommandError → Type 0
TellsUnfit format table name (error.Line file number e) = (file.now ≡ name) × IsUnfitIn format table number e
TellsUnfit format table name e = ⊥
