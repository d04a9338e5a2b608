-- What functions promise that read lines of any kind. `Said` says what is said behind some lines, `IsBad` which error a line has.
use Rattle.std.specs.Prelude.{◌≡◌, ℕ, ◌+◌, List, [], ◌∷◌, ◌++◌, length, Option, Some, Result, Ok, Err}
use Rattle.std.specs.List.{AllZip}
use Rattle.cidr.specs.declared.cidr.combined.IpCidr.{IpCidr}
use Rattle.cidr_lists.specs.Forms.{RowSays}
use Rattle.cidr_lists.specs.Lists.{IsFirstBad, SaysBy, Text, bits_in, lines_of, networks_in}
use Rattle.cidr_lists.specs.Reading.{Grows}
use Rattle.cidr_lists.specs.Tables.{Stores}
use Rattle.cidr_lists.specs.declared.errors.LineError.{LineError}
use Rattle.cidr_lists.specs.declared.forms.RowForm.{RowForm}
use Rattle.cidr_lists.specs.declared.lists.Lists.{Lists}
use Rattle.cidr_lists.specs.declared.records.ListForm.{ListForm}
use Rattle.cidr_lists.specs.declared.rows.RowList.{RowList}
use Rattle.netset_commands.specs.Stored.{AreFileBytes, IsNotGiven}
use Rattle.netset_commands.specs.declared.errors.CommandError.{CommandError}
use Rattle.netset_commands.specs.declared.errors.CommandError.TheVariants as error
use Rattle.netset_commands.specs.declared.errors.ListReadError.{ListReadError}
use Rattle.netset_commands.specs.declared.errors.ListReadError.TheVariants.{Line, Input, NoMemory}
use Rattle.netset_commands.specs.declared.input.begun.FileContent.{FileContent}
use Rattle.netset_commands.specs.declared.input.begun.FileContent.TheVariants.{Lines, Stored}

-- networks that lines say come behind those before
abbrev pub HasListed : ListForm → Lists → List (List ℕ) → Lists → Type 0
HasListed form old lines new = (said : List (List IpCidr)) × AllZip (SaysBy form) lines said × Grows old new (λ family. networks_in family said)

-- rows that lines say, where none were there before
abbrev pub HasRows : RowForm → ListForm → RowList → List (List ℕ) → RowList → Type 0
HasRows row form old lines new = Stores old []
    → (said : List (Option (IpCidr × List ℕ))) × AllZip (RowSays row (bits_in form)) lines said × Stores new said

-- the error is that of this line, or the line is not known to have one
abbrev pub IsFaultAt : (List ℕ → LineError → Type 0) → List ℕ → ℕ → ListReadError → Type 0
IsFaultAt IsBad line number (Line n e) = (n ≡ number) × IsBad line e
IsFaultAt IsBad line number Input = Unit {0}
IsFaultAt IsBad line number NoMemory = Unit {0}

-- what a line says comes behind what those before say, or it is in error
abbrev pub AddsSaid : {S : Type 0} → (S → List (List ℕ) → S → Type 0) → (List ℕ → LineError → Type 0) → List ℕ → ℕ → S → S → Result (Unit {0}) ListReadError → Type 0
AddsSaid {S} Says IsBad line number old new (Ok _) = (start : S) (before : List (List ℕ)) → number ≡ length before + 1
    → Says start before old → Says start (before ++ line ∷ []) new
AddsSaid Says IsBad line number old new (Err e) = IsFaultAt IsBad line number e

-- the first line of a text in error, or nothing of the text where reading has stopped
abbrev pub IsFaultIn : {S : Type 0} → (List (List ℕ) → S → Type 0) → (List ℕ → LineError → Type 0) → List ℕ → ListReadError → Type 0
IsFaultIn Said IsBad text (Line number e) = IsFirstBad Said IsBad (lines_of text) number e
IsFaultIn Said IsBad text Input = Unit {0}
IsFaultIn Said IsBad text NoMemory = Unit {0}

-- this is said behind the lines of a text, or one is in error
abbrev pub ReadsLines : {S : Type 0} → (List (List ℕ) → S → Type 0) → (List ℕ → LineError → Type 0) → List ℕ → S → Result (Unit {0}) ListReadError → Type 0
ReadsLines Said IsBad text new (Ok _) = Said (lines_of text) new
ReadsLines Said IsBad text new (Err e) = IsFaultIn Said IsBad text e

-- why the file of this name is not read
abbrev pub IsUnreadBy : {S : Type 0} → (ListForm → List (List ℕ) → S → Type 0) → (ListForm → List ℕ → LineError → Type 0) → Option Text → List ℕ → CommandError → Type 0
IsUnreadBy Said IsBad contents name (error.Line file number e) = (file.now ≡ name)
    × ((text : Text) → contents ≡ Some text → IsFirstBad (Said text.form) (IsBad text.form) (lines_of text.bytes) number e)
IsUnreadBy Said IsBad contents name (error.Input file why) = file.now ≡ name
IsUnreadBy Said IsBad contents name error.NoMemory = Unit {0}
IsUnreadBy Said IsBad contents name e = ⊥

-- this is said behind the lines of a file, or it is not read
abbrev pub ReadsFileLines : {S : Type 0} → (ListForm → List (List ℕ) → S → Type 0) → (ListForm → List ℕ → LineError → Type 0) → Option Text → List ℕ → S
    → Result (Unit {0}) CommandError → Type 0
ReadsFileLines Said IsBad contents name new (Ok _) = (text : Text) → contents ≡ Some text → Said text.form (lines_of text.bytes) new
ReadsFileLines Said IsBad contents name new (Err e) = IsUnreadBy Said IsBad contents name e

-- the same, or the bytes of a file of look-ups
abbrev pub GivesFileLines : {S : Type 0} → (ListForm → List (List ℕ) → S → Type 0) → (ListForm → List ℕ → LineError → Type 0) → Option Text → List ℕ → S
    → Result (FileContent (Unit {0})) CommandError → Type 0
GivesFileLines Said IsBad contents name new (Ok (Lines _)) = ReadsFileLines Said IsBad contents name new (Ok tt)
GivesFileLines Said IsBad contents name new (Ok (Stored bytes)) = AreFileBytes contents bytes.items
GivesFileLines Said IsBad contents name new (Err e) = IsNotGiven (IsUnreadBy Said IsBad contents name) contents name e
