-- What functions that read a table and look addresses up promise.
use Rattle.std.specs.Prelude.{◌≡◌, ℕ, ◌+◌, ◌≤◌, Bool, List, [], ◌∷◌, ◌++◌, length, take, is_some, Option, Some, None, option_map, IfSome, Result, Ok, Err}
use Rattle.std.specs.Borrow.{Bor}
use Rattle.std.specs.List.{All, AllZip, flat_map, list_any}
use Rattle.cidr.specs.either.IpAddress.{address_family, plain_bits}
use Rattle.cidr.specs.declared.addr.ip.IpAddr.{IpAddr}
use Rattle.cidr.specs.declared.cidr.combined.IpCidr.{IpCidr}
use Rattle.cidr.specs.declared.family.Family.{Family}
use Rattle.cidr_io.specs.Writing.{State, Part, Answered}
use Rattle.cidr_io.specs.declared.sink.OutputFailed.{OutputFailed}
use Rattle.cidr_table.specs.model.Prefixes.{IsLookedUp}
use Rattle.cidr_io.specs.Collecting.{Collects}
use Rattle.cidr_lists.specs.Lists.{IsTooLong, Text, bits_in, lines_of}
use Rattle.cidr_lists.specs.Forms.{IsBadRow, RowSays}
use Rattle.cidr_lists.specs.Tables.{IsTable, Stores, Pushes, value_at}
use Rattle.netset_commands.specs.Rows.{kept, searched}
use Rattle.netset_commands.specs.Look.{IsUnreadTable}
use Rattle.netset_commands.specs.Stored.{AreFileBytes, IsNoTable}
use Rattle.cidr_lists.specs.LookUps.{IsBadAsked, LineLooks, LookUp, SaysAsked, found_line, is_found, look_line}
use Rattle.cidr_lists.specs.declared.fields.Asked.{Asked}
use Rattle.cidr_lists.specs.declared.forms.RowForm.{RowForm}
use Rattle.netset_commands.specs.declared.errors.CommandError.{CommandError}
use Rattle.netset_commands.specs.declared.errors.CommandError.TheVariants as error
use Rattle.cidr_lists.specs.declared.errors.LineError.{LineError}
use Rattle.cidr_lists.specs.declared.records.ListForm.{ListForm}
use Rattle.netset_commands.specs.declared.errors.ListReadError.{ListReadError}
use Rattle.netset_commands.specs.declared.errors.Reason.TheVariants.{Unknown}
use Rattle.netset_commands.specs.declared.errors.ListReadError.TheVariants.{Line, Input, NoMemory}
use Rattle.netset_commands.specs.declared.input.begun.FileContent.{FileContent}
use Rattle.netset_commands.specs.declared.input.table.Answer.{Answer}
use Rattle.netset_commands.specs.declared.input.begun.FileContent.TheVariants.{Lines, Stored}
use Rattle.netset_commands.specs.declared.commands.look.LookError.{LookError}
use Rattle.netset_commands.specs.declared.commands.look.LookError.TheVariants.{Reading, Output}
use Rattle.cidr_lists.specs.declared.rows.RowList.{RowList}
use Rattle.cidr_lists.specs.declared.rows.Span.{Span}
use Rattle.netset_commands.specs.declared.input.tables.SearchedTable.{SearchedTable}
use Rattle.netset_commands.specs.declared.input.tables.PlainTable.{PlainTable}

-- the row of a line, if it says one
abbrev pub Adds : RowList → RowList → Option (IpCidr × List ℕ) → Type 0
Adds old new None = new ≡ old
Adds old new (Some (network, value)) = Pushes old new network value

-- this is what the first lines of a text say
pub record AreFirstSaid {S : Type 0} (Says : List ℕ → S → Type 0) (text : List ℕ) (said : List S) : Type 0 where
  pub before : List (List ℕ)
  pub after : List (List ℕ)
  pub lines : lines_of text ≡ before ++ after
  pub fine : AllZip Says before said

-- the same of the lines before the first line in error, by its number from 1 on
pub record AreBeforeError {S : Type 0} (Says : List ℕ → S → Type 0) (IsBad : List ℕ → LineError → Type 0) (text : List ℕ) (said : List S)
    (number : ℕ) (e : LineError) : Type 0 where
  pub before : List (List ℕ)
  pub line : List ℕ
  pub after : List (List ℕ)
  pub lines : lines_of text ≡ before ++ line ∷ after
  pub place : number ≡ length before + 1
  pub fine : AllZip Says before said
  pub fault : IsBad line e

-- the error is that of this line, or the line is not known to have one
abbrev pub IsErrorAt : (List ℕ → LineError → Type 0) → List ℕ → ℕ → ListReadError → Type 0
IsErrorAt IsBad line number (Line n e) = (n ≡ number) × IsBad line e
IsErrorAt IsBad line number Input = ⊥
IsErrorAt IsBad line number NoMemory = Unit {0}

-- the row that a line says, if it says one, comes behind those before
abbrev pub AddsRow : RowForm → ListForm → List ℕ → ℕ → RowList → RowList → Result (Unit {0}) ListReadError → Type 0
AddsRow form bits line number old new (Ok _) = (said : Option (IpCidr × List ℕ)) × RowSays form (bits_in bits) line said × Adds old new said
AddsRow form bits line number old new (Err e) = IsErrorAt (IsBadRow form (bits_in bits)) line number e

-- the rows that a text says, or its first line in error, or nothing of the text where reading has stopped
abbrev pub ReadsRows : RowForm → Text → Result RowList ListReadError → Type 0
ReadsRows form text (Ok rows) = (said : List (Option (IpCidr × List ℕ)))
    × AllZip (RowSays form (bits_in text.form)) (lines_of text.bytes) said × Stores rows said
ReadsRows form text (Err (Line number e)) = (said : List (Option (IpCidr × List ℕ)))
    × AreBeforeError (RowSays form (bits_in text.form)) (IsBadRow form (bits_in text.form)) text.bytes said number e
ReadsRows form text (Err Input) = Unit {0}
ReadsRows form text (Err NoMemory) = Unit {0}

-- the rows of a file, or why it is not read
abbrev pub ReadsFileRows : RowForm → Option Text → List ℕ → Result RowList CommandError → Type 0
ReadsFileRows form contents name (Ok rows) = (text : Text) → contents ≡ Some text → ReadsRows form text (Ok rows)
ReadsFileRows form contents name (Err e) = IsUnreadTable form contents name e

-- the table of a file, or why it is not read
abbrev pub ReadsTable : RowForm → Option Text → List ℕ → Result PlainTable CommandError → Type 0
ReadsTable form contents name (Ok table) = (text : Text) → contents ≡ Some text → IsTable form text (kept table)
ReadsTable form contents name (Err e) = IsUnreadTable form contents name e

-- what a file has in the place of a table: lines, by the rows that they say, or the bytes of a file of look-ups; or why it is
-- not read
abbrev pub GivesRows : RowForm → Option Text → List ℕ → Result (FileContent RowList) CommandError → Type 0
GivesRows form contents name (Ok (Lines rows)) = ReadsFileRows form contents name (Ok rows)
GivesRows form contents name (Ok (Stored bytes)) = AreFileBytes contents bytes.items
GivesRows form contents name (Err e) = IsNoTable form contents name e

-- the same with the table of these rows
abbrev pub GivesTable : RowForm → Option Text → List ℕ → Result (FileContent SearchedTable) CommandError → Type 0
GivesTable form contents name (Ok (Lines table)) = (text : Text) → contents ≡ Some text → IsTable form text (searched table)
GivesTable form contents name (Ok (Stored bytes)) = AreFileBytes contents bytes.items
GivesTable form contents name (Err e) = IsNoTable form contents name e

-- an error of reading a file
abbrev pub unread : Bor (List ℕ) → ListReadError → CommandError
unread file (Line number e) = error.Line file number e
unread file Input = error.Input file Unknown
unread file NoMemory = error.NoMemory

-- an address was looked up, and its line was collected, or a beginning of what is collected was written
abbrev pub LooksUp : (Family → List (List Bool × List ℕ)) → IpAddr → State → State → List ℕ → List ℕ → Result Bool OutputFailed → Type 0
LooksUp table address old new block rest (Ok found) = (row : Option (List Bool × List ℕ))
    × IsLookedUp (λ (p : List Bool). p) (plain_bits address) (table (address_family address)) row
    × Collects old new block rest (look_line (Some (record { address = address; found = row }))) (Ok tt) × (found ≡ is_some row)
LooksUp table address old new block rest (Err e) = (row : Option (List Bool × List ℕ))
    × IsLookedUp (λ (p : List Bool). p) (plain_bits address) (table (address_family address)) row
    × Part old new (block ++ look_line (Some (record { address = address; found = row })))

-- the line of an address and of what was found, the same way
abbrev pub PushesFound : List ℕ → Option (List ℕ × List ℕ) → State → State → List ℕ → List ℕ → Result Bool OutputFailed → Type 0
PushesFound address row old new block rest (Ok found) = Collects old new block rest (found_line address row) (Ok tt) × (found ≡ is_some row)
PushesFound address row old new block rest (Err e) = Part old new (block ++ found_line address row)

-- what stands for a row: the first bits of the address, and the bytes of the value
abbrev pub answer_of : ℕ → Span → Answer
answer_of len value = record { len = len; value = value }

abbrev pub answer_row : List ℕ → IpAddr → Answer → List Bool × List ℕ
answer_row values address answer = (take answer.len (plain_bits address), value_at values answer.value)

-- this is what a table has of an address
abbrev pub HasAnswer : SearchedTable → IpAddr → Option Answer → Type 0
HasAnswer table address found = IsLookedUp (λ (p : List Bool). p) (plain_bits address) (searched table (address_family address))
    (option_map (answer_row table.values.items address) found)

-- a line that is not too long has this address, or none
abbrev pub LineAsks : Asked → List ℕ → Option IpAddr → Type 0
LineAsks place line asked = ¬ (IsTooLong line) × SaysAsked place line asked

-- the same, or its error
abbrev pub AsksAddress : Asked → List ℕ → Result (Option IpAddr) LineError → Type 0
AsksAddress place line (Ok asked) = LineAsks place line asked
AsksAddress place line (Err e) = IsBadAsked place line e

-- it comes behind those of other lines; or the line is in error
abbrev pub AsksLine : Asked → List ℕ → List (Option IpAddr) → List (Option IpAddr) → Result (Unit {0}) LineError → Type 0
AsksLine place line old new (Ok _) = (asked : Option IpAddr) × LineAsks place line asked × (new ≡ old ++ asked ∷ [])
AsksLine place line old new (Err e) = IsBadAsked place line e × (new ≡ old)

-- the first lines of a text say this, and this is left of it
pub record AreReadBefore {S : Type 0} (Says : List ℕ → S → Type 0) (text : List ℕ) (left : Option (List ℕ)) (said : List S) : Type 0 where
  pub rest : List ℕ
  pub known : left ≡ Some rest
  pub before : List (List ℕ)
  pub lines : lines_of text ≡ before ++ lines_of rest
  pub size : length rest ≤ length text
  pub fine : AllZip Says before said

-- why a text is not read further behind the lines that have these
abbrev pub EndsAsking : Asked → List ℕ → List (Option IpAddr) → ListReadError → Type 0
EndsAsking place text asked (Line number e) = AreBeforeError (LineAsks place) (IsBadAsked place) text asked (length asked + 1) e
EndsAsking place text asked Input = AreFirstSaid (LineAsks place) text asked
EndsAsking place text asked NoMemory = AreFirstSaid (LineAsks place) text asked

-- the line in error is the one behind these, the first of which has this number
abbrev pub IsErrorBehind : ℕ → List (Option IpAddr) → ListReadError → Type 0
IsErrorBehind first asked (Line number e) = number ≡ first + length asked
IsErrorBehind first asked Input = Unit {0}
IsErrorBehind first asked NoMemory = Unit {0}

-- lines from the one of a number on have these addresses, up to the line of another number, to the end, or to an error
abbrev pub AsksLines : Asked → ℕ → Option (List ℕ) → Option (List ℕ) → List (Option IpAddr) → Result (Option ℕ) ListReadError → Type 0
AsksLines place first old new asked (Ok (Some number)) =
    (number ≡ first + length asked) × IfSome old (λ text. AreReadBefore (LineAsks place) text new asked)
AsksLines place first old new asked (Ok None) = IfSome old (λ text. AllZip (LineAsks place) (lines_of text) asked)
AsksLines place first old new asked (Err e) = IsErrorBehind first asked e × IfSome old (λ text. EndsAsking place text asked e)

-- what was found of the address that a line has
abbrev pub IsFoundOf : (IpAddr → Option Answer → Type 0) → Option IpAddr → Option (IpAddr × Option Answer) → Type 0
IsFoundOf IsFound (Some address) (Some (other, found)) = (other ≡ address) × IsFound address found
IsFoundOf IsFound None None = Unit {0}
IsFoundOf IsFound (Some address) None = ⊥
IsFoundOf IsFound None (Some found) = ⊥

-- all of it was found
abbrev pub AllFound : (IpAddr → Option Answer → Type 0) → List (Option (IpAddr × Option Answer)) → Type 0
AllFound IsFound found = All (λ one. IfSome one (λ (pair : IpAddr × Option Answer). IsFound pair.0 pair.1)) found

-- the address that a line has was looked up
abbrev pub AskLooks : (Family → List (List Bool × List ℕ)) → Option IpAddr → Option LookUp → Type 0
AskLooks table (Some address) (Some look) = (look.address ≡ address)
    × IsLookedUp (λ (p : List Bool). p) (plain_bits address) (table (address_family address)) look.found
AskLooks table None None = Unit {0}
AskLooks table (Some address) None = ⊥
AskLooks table None (Some look) = ⊥

-- it was looked up, and its line was collected, or a beginning of what is collected was written
abbrev pub LooksOne : (Family → List (List Bool × List ℕ)) → Option IpAddr → State → State → List ℕ → List ℕ → Result Bool OutputFailed → Type 0
LooksOne table asked old new block rest (Ok found) = (look : Option LookUp) × AskLooks table asked look
    × Collects old new block rest (look_line look) (Ok tt) × (found ≡ is_found look)
LooksOne table asked old new block rest (Err e) = (look : Option LookUp) × AskLooks table asked look × Part old new (block ++ look_line look)

-- the addresses of lines were looked up one after the other, the same way
abbrev pub LooksEach : (Family → List (List Bool × List ℕ)) → List (Option IpAddr) → State → State → List ℕ → List ℕ → Result Bool OutputFailed → Type 0
LooksEach table asked old new block rest (Ok found) = (looks : List (Option LookUp)) × AllZip (AskLooks table) asked looks
    × Collects old new block rest (flat_map look_line looks) (Ok tt) × (found ≡ list_any is_found looks)
LooksEach table asked old new block rest (Err e) = (first : List (Option IpAddr)) × (behind : List (Option IpAddr)) × (asked ≡ first ++ behind)
    × (looks : List (Option LookUp)) × AllZip (AskLooks table) first looks × Part old new (block ++ flat_map look_line looks)

-- why no more lines are read
abbrev pub EndsReading : Asked → (Family → List (List Bool × List ℕ)) → List ℕ → List (Option LookUp) → ListReadError → Type 0
EndsReading place table text looks (Line number e) = AreBeforeError (LineLooks place table) (IsBadAsked place) text looks number e
EndsReading place table text looks Input = AreFirstSaid (LineLooks place table) text looks
EndsReading place table text looks NoMemory = AreFirstSaid (LineLooks place table) text looks

-- the addresses of a text were looked up, and their lines collected, to the end or to an error
abbrev pub LooksLines : Asked → (Family → List (List Bool × List ℕ)) → Option (List ℕ) → State → State → List ℕ → List ℕ → Result Bool LookError → Type 0
LooksLines place table contents old new block rest (Ok found) = (looks : List (Option LookUp))
    × Collects old new block rest (flat_map look_line looks) (Ok tt) × (found ≡ list_any is_found looks)
    × IfSome contents (λ text. AllZip (LineLooks place table) (lines_of text) looks)
LooksLines place table contents old new block rest (Err (Reading e)) = (looks : List (Option LookUp))
    × Collects old new block rest (flat_map look_line looks) (Ok tt) × IfSome contents (λ text. EndsReading place table text looks e)
LooksLines place table contents old new block rest (Err Output) = (looks : List (Option LookUp))
    × Part old new (block ++ flat_map look_line looks) × IfSome contents (λ text. AreFirstSaid (LineLooks place table) text looks)

-- the same, and the lines were written
abbrev pub LooksAll : Asked → (Family → List (List Bool × List ℕ)) → Option (List ℕ) → State → State → Result Bool LookError → Type 0
LooksAll place table contents old new (Ok found) = (looks : List (Option LookUp))
    × Answered old new (flat_map look_line looks) (Ok tt) × (found ≡ list_any is_found looks)
    × IfSome contents (λ text. AllZip (LineLooks place table) (lines_of text) looks)
LooksAll place table contents old new (Err (Reading e)) = (looks : List (Option LookUp))
    × Answered old new (flat_map look_line looks) (Ok tt) × IfSome contents (λ text. EndsReading place table text looks e)
LooksAll place table contents old new (Err Output) = (looks : List (Option LookUp)) × (failed : OutputFailed)
    × Answered old new (flat_map look_line looks) (Err failed) × IfSome contents (λ text. AreFirstSaid (LineLooks place table) text looks)
