-- Every line in error of the lists of a request, as `-k` tells them, and what is read without these, as `--skip-bad` does.
use Rattle.std.specs.Prelude.{◌≡◌, ◌≢◌, ◌⊎◌, ◌&&◌, ℕ, Bool, true, false, if◌then◌else◌, List, [], ◌∷◌, ◌++◌, drop, Option, None, Some, IfSome, option_map, Result, Ok, Err}
use Rattle.std.specs.List.{AllZip, find, flat_map}
use Rattle.cidr.specs.declared.cidr.combined.IpCidr.{IpCidr}
use Rattle.cidr.specs.declared.family.Family.{Family}
use Rattle.cidr_io.specs.Collecting.{HasSaid}
use Rattle.cidr_io.specs.Writing.{State, Tells}
use Rattle.netset_commands.specs.Commands.{Request, Check, Which, Match, MatchEach, Look, Compile, Smallest, Same, AreTold}
use Rattle.netset_commands.specs.Compiled.{begins_file}
use Rattle.netset_commands.specs.Entries.{AddsEntry}
use Rattle.cidr_lists.specs.Entries.{AreEntries}
use Rattle.cidr_lists.specs.Lists.{Text, SaysBy, bits_in, lines_of, networks_in, text_in}
use Rattle.cidr_lists.specs.Forms.{RowSays}
use Rattle.cidr_lists.specs.Tables.{Stores}
use Rattle.netset_commands.specs.LookUps.{AddsRow}
use Rattle.netset_commands.specs.Matching.{is_word}
use Rattle.netset_commands.specs.Reading.{AddsLine, IsStopped}
use Rattle.cidr_lists.specs.Reading.{listed}
use Rattle.netset_commands.specs.declared.errors.CommandError.{CommandError}
use Rattle.netset_commands.specs.declared.errors.CommandError.TheVariants as error
use Rattle.cidr_lists.specs.declared.errors.LineError.{LineError}
use Rattle.netset_commands.specs.declared.errors.ListReadError.{ListReadError}
use Rattle.netset_commands.specs.declared.errors.Reason.{Reason}
use Rattle.netset_commands.specs.declared.input.begun.FileContent.{FileContent}
use Rattle.netset_commands.specs.declared.input.begun.FileContent.TheVariants.{Lines, Stored}
use Rattle.netset_commands.specs.declared.input.keeping.Heard.{Heard}
use Rattle.netset_commands.specs.declared.input.keeping.Kept.{Kept}
use Rattle.cidr_lists.specs.declared.forms.ListKind.{ListKind}
use Rattle.cidr_lists.specs.declared.forms.ListKind.TheVariants as kind
use Rattle.netset_commands.specs.declared.input.keeping.Said.{Said}
use Rattle.netset_commands.specs.declared.input.keeping.Said.TheVariants.{Networks, Hosts, Rows}
use Rattle.cidr_lists.specs.declared.records.ListForm.{ListForm}
use Rattle.cidr_lists.specs.Messages.{fault_line}
use Rattle.cidr_lists.specs.Faults.{IsFaulty, AreErrors, AreTellings, IsPartTold, IsSound}

-- what the lines of the lists of a request are
abbrev pub kind_of : Request → ListKind
kind_of (Check files) = kind.Hosts
kind_of (Which address files) = kind.Hosts
kind_of (Look seeking table file) = kind.Rows seeking.form
kind_of (Compile form table name) = kind.Rows form
kind_of (Same form old new) = kind.Rows form
kind_of (Smallest holes form table) = kind.Rows form
kind_of request = kind.Networks

-- whether its list may be a file of look-ups
abbrev pub takes_file : Request → Bool
takes_file (Match picking list file) = true
takes_file (MatchEach picking list files) = true
takes_file (Look seeking table file) = true
takes_file request = false

-- a list by its lines: a file of look-ups has none
abbrev pub only_lines : Text → Text
only_lines text = if begins_file text.bytes then text_in text.form [] else text

-- the lists by their lines, where they may be files of look-ups, or not
abbrev pub lined_in : Bool → Option Text → Option Text
lined_in false contents = contents
lined_in true contents = option_map only_lines contents

abbrev pub lined : Bool → (List ℕ → Option Text) → List ℕ → Option Text
lined takes contents name = lined_in takes (contents name)

-- why no more lists are read: the first of these can't be read, or memory
abbrev pub IsLoadError : List (List ℕ) → CommandError → Type 0
IsLoadError names (error.Input file why) = (after : List (List ℕ)) × (names ≡ file.now ∷ after)
IsLoadError names error.NoMemory = Unit {0}
IsLoadError names e = ⊥

-- whether a line is in error
abbrev pub IsAny : Bool → List ℕ → Type 0
IsAny true contents = contents ≢ []
IsAny false contents = contents ≡ []

-- the lines in error are told of a beginning of the first of these lists, if its bytes are told
abbrev pub IsBegun : (List ℕ → Option Text) → ListKind → List (List ℕ) → List ℕ → Type 0
IsBegun contents kind [] lines = lines ≡ []
IsBegun contents kind (name ∷ names) lines = (text : Text) → contents name ≡ Some text → IsPartTold kind name text lines

-- ---- without the lines in error
-- what is read of a line: nothing of a line in error
abbrev pub IsGoodLine : ListKind → ListForm → List ℕ → List ℕ → Type 0
IsGoodLine kind bits line good = (IsSound kind bits line × (good ≡ line)) ⊎ ((e : LineError) × IsFaulty kind bits line e × (good ≡ []))

-- of some lines, each with a line feed in front
abbrev pub AreGoodLines : ListKind → ListForm → List (List ℕ) → List ℕ → Type 0
AreGoodLines kind bits lines bytes =
    (goods : List (List ℕ)) × AllZip (IsGoodLine kind bits) lines goods × (bytes ≡ flat_map (λ line. 10 ∷ line) goods)

-- of a list: its lines, each of those in error left empty; a file of look-ups has none
abbrev pub IsGoodText : Bool → ListKind → Text → Text → Type 0
IsGoodText true kind text good = good ≡ text
IsGoodText false kind text good = (good.form ≡ text.form)
    × (bytes : List ℕ) × AreGoodLines kind text.form (lines_of text.bytes) bytes × (good.bytes ≡ drop 1 bytes)

-- of a file, which is a list of the request or not
abbrev pub IsGoodFile : Bool → Request → Option Text → Option Text → Type 0
IsGoodFile true request contents good = (text : Text) → contents ≡ Some text
    → (read : Text) × (good ≡ Some read) × IsGoodText (takes_file request && begins_file text.bytes) (kind_of request) text read
IsGoodFile false request contents good = good ≡ contents

-- why a file can't be opened, of which no list is kept, is told as before
abbrev pub IsSameReason : Bool → Option Reason → Option Reason → Type 0
IsSameReason true told good = Unit {0}
IsSameReason false told good = good ≡ told

-- ---- what private functions promise
-- what the lines are
abbrev pub kind_in : Said → ListKind
kind_in (Networks lists) = kind.Networks
kind_in (Hosts entries) = kind.Hosts
kind_in (Rows form rows) = kind.Rows form

-- this is what the lines say, each entry in a file of no name
abbrev pub AllSaid : ListForm → List (List ℕ) → Said → Type 0
AllSaid bits lines (Networks lists) = (said : List (List IpCidr)) × AllZip (SaysBy bits) lines said
    × ((family : Family) → listed lists family ≡ networks_in family said)
AllSaid bits lines (Hosts entries) = AreEntries [] 1 lines entries.items
AllSaid bits lines (Rows form rows) = (said : List (Option (IpCidr × List ℕ))) × AllZip (RowSays form (bits_in bits)) lines said × Stores rows said

-- nothing is said yet
abbrev pub IsNothingSaid : ListKind → Said → Type 0
IsNothingSaid kind said = (kind_in said ≡ kind) × ((bits : ListForm) → AllSaid bits [] said)

-- what a line says comes behind what the lines before say
abbrev pub AddsBy : ListForm → List ℕ → ℕ → Said → Said → Result (Unit {0}) ListReadError → Type 0
AddsBy bits line number (Networks old) (Networks new) r = AddsLine bits line number old new r
AddsBy bits line number (Hosts old) (Hosts new) r = AddsEntry [] number line old.items new.items r
AddsBy bits line number (Rows form old) (Rows same new) r = (same ≡ form) × AddsRow form bits line number old new r
AddsBy bits line number (Networks old) (Hosts new) r = ⊥
AddsBy bits line number (Networks old) (Rows form new) r = ⊥
AddsBy bits line number (Hosts old) (Networks new) r = ⊥
AddsBy bits line number (Hosts old) (Rows form new) r = ⊥
AddsBy bits line number (Rows form old) (Networks new) r = ⊥
AddsBy bits line number (Rows form old) (Hosts new) r = ⊥

-- lines more are said, where these were said before
abbrev pub SaysMore : State → List ℕ → State → List ℕ → List ℕ → Type 0
SaysMore old block new rest lines = (start : State) (text : List ℕ) → HasSaid start old block text → HasSaid start new rest (text ++ lines)

-- what a line says was added, or its error was told, or it is not known
abbrev pub KeepsLine : ListForm → List ℕ → ℕ → List ℕ → Said → Said → State → List ℕ → State → List ℕ → Result Bool ListReadError → Type 0
KeepsLine bits file number line was now old block new rest (Ok false) = AddsBy bits line number was now (Ok tt) × (new ≡ old) × (rest ≡ block)
KeepsLine bits file number line was now old block new rest (Ok true) = (e : LineError) × (kind_in now ≡ kind_in was)
    × IsFaulty (kind_in was) bits line e × SaysMore old block new rest (fault_line file (number, e))
KeepsLine bits file number line was now old block new rest (Err e) = IsStopped e × (new ≡ old) × (rest ≡ block)

-- what was told of lines, whether one is in error, and else what they say; and, if that is wanted, what is read of them
abbrev pub IsKept : ListKind → ListForm → List ℕ → Bool → List (List ℕ) → List ℕ × Bool × Said × List ℕ → Type 0
IsKept kind bits file skips lines kept = (errors : List (ℕ × LineError)) × AreErrors kind bits 1 lines errors
    × (kept.0 ≡ flat_map (fault_line file) errors) × (kept.1 ≡ false → AllSaid bits lines kept.2)
    × (skips ≡ true → AreGoodLines kind bits lines kept.3)

-- the lines of a list were read, and those in error told
abbrev pub KeepsListLines : ListKind → ListForm → List ℕ → Bool → Option (List ℕ) → State → List ℕ → State → List ℕ → Result Heard ListReadError → Type 0
KeepsListLines kind bits file skips left old block new rest (Ok heard) = (lines : List ℕ) × SaysMore old block new rest lines
    × IsAny heard.is_bad lines × IfSome left (λ text. IsKept kind bits file skips (lines_of text) (lines, heard.is_bad, heard.said, heard.text.items))
KeepsListLines kind bits file skips left old block new rest (Err e) = (lines : List ℕ) × SaysMore old block new rest lines × IsStopped e
    × IfSome left (λ text. IsPartTold kind file (text_in bits text) lines)

-- this is kept of a list: what its lines say, or the bytes of a file of look-ups
abbrev pub IsGivenBy : Text → FileContent Said → Type 0
IsGivenBy text (Lines said) = AllSaid text.form (lines_of text.bytes) said
IsGivenBy text (Stored bytes) = (begins_file text.bytes ≡ true) × (bytes.items ≡ text.bytes)

-- the lines in error are told of a list
abbrev pub AreErrorsTold : ListKind → List ℕ → Text → List ℕ → Type 0
AreErrorsTold kind file text lines = (errors : List (ℕ × LineError)) × AreErrors kind text.form 1 (lines_of text.bytes) errors
    × (lines ≡ flat_map (fault_line file) errors)

-- the bytes that are read of what is kept of a list without its lines in error
abbrev pub given_bytes : FileContent Said → List ℕ → List ℕ
given_bytes (Lines said) text = drop 1 text
given_bytes (Stored bytes) text = bytes.items

abbrev pub good_bytes : Kept → List ℕ
good_bytes list = given_bytes list.given list.text.items

-- these are those of a text
abbrev pub AreGoodBytes : Bool → ListKind → Option Text → List ℕ → Type 0
AreGoodBytes takes kind contents bytes = (text : Text) → contents ≡ Some text
    → IsGoodText (takes && begins_file text.bytes) kind text (text_in text.form bytes)

-- the same of the list of a file, which may be a file of look-ups, or not, and, if that is wanted, what is read of it
abbrev pub KeepsList : Bool → Option Text → ListKind → List ℕ → Bool → State → State → Result (Kept × Bool) CommandError → Type 0
KeepsList takes contents kind file skips old new (Ok kept) = (lines : List ℕ) × Tells old new lines × IsAny kept.1 lines
    × ((text : Text) → lined_in takes contents ≡ Some text → AreErrorsTold kind file text lines)
    × (kept.1 ≡ false → (text : Text) → contents ≡ Some text → IsGivenBy text kept.0.given)
    × (skips ≡ true → AreGoodBytes takes kind contents (good_bytes kept.0)) × (kept.0.name.now ≡ file)
KeepsList takes contents kind file skips old new (Err e) = (lines : List ℕ) × Tells old new lines × IsLoadError (file ∷ []) e
    × ((text : Text) → lined_in takes contents ≡ Some text → IsPartTold kind file text lines)

-- the lists say what is kept of them
abbrev pub AreKept : (List ℕ → Option Text) → List Kept → Type 0
AreKept contents [] = Unit {0}
AreKept contents (list ∷ lists) =
    ((text : Text) → contents list.name.now ≡ Some text → IsGivenBy text list.given) × AreKept contents lists

-- the same without their lines in error
abbrev pub AreGoodKept : Bool → (List ℕ → Option Text) → ListKind → List (List ℕ) → List Kept → Type 0
AreGoodKept takes contents kind names lists =
    AllZip (λ name list. (list.name.now ≡ name) × AreGoodBytes takes kind (contents name) (good_bytes list)) names lists

-- the first list of a name
abbrev pub list_named : List ℕ → List Kept → Option Kept
list_named name lists = find (λ list. is_word name list.name.now) lists

-- what is read of a file, of which this is kept, or which is read from elsewhere
abbrev pub good_file : ListForm → Option Kept → Option Text → Option Text
good_file bits (Some list) contents = Some (text_in bits (good_bytes list))
good_file bits None contents = option_map (λ text. text_in bits text.bytes) contents

abbrev pub good_files : ListForm → List Kept → (List ℕ → Option Text) → List ℕ → Option Text
good_files bits lists contents name = good_file bits (list_named name lists) (contents name)

-- why a file can't be opened, where no list of its name is kept
abbrev pub none_of_kept : Option Kept → Option Reason → Option Reason
none_of_kept (Some list) told = None
none_of_kept None told = told

abbrev pub reasons_beside : List Kept → (List ℕ → Option Reason) → List ℕ → Option Reason
reasons_beside lists reasons name = none_of_kept (list_named name lists) (reasons name)

-- what was told of lists, if their bytes are told
abbrev pub HasTold : (List ℕ → Option Text) → ListKind → List (List ℕ) → State → State → List ℕ → Type 0
HasTold contents kind names old new lines =
    Tells old new lines × ((texts : List Text) → AreTold contents names texts → AreTellings kind names texts lines)
