-- Why lists are not checked, and what functions that read their entries promise.
use Rattle.std.specs.Prelude.{◌≡◌, ℕ, List, ◌∷◌, ◌++◌, Option, Some, Result, Ok, Err}
use Rattle.netset_commands.specs.Commands.{AreTold}
use Rattle.cidr_lists.specs.Entries.{AreAllEntries, IsFirstFaultyLine}
use Rattle.netset_commands.specs.Entries.{HasAdded}
use Rattle.cidr_lists.specs.Lists.{Text, lines_of}
use Rattle.cidr_lists.specs.declared.entries.Entry.{Entry}
use Rattle.netset_commands.specs.declared.errors.CommandError.{CommandError}
use Rattle.netset_commands.specs.declared.errors.CommandError.TheVariants as error

-- one of these files is the first whose entries are not read: those before it have theirs
abbrev pub StopsAtEntries : (List ℕ → Option Text) → List (List ℕ) → List ℕ → Type 0
StopsAtEntries contents names name = (before : List (List ℕ)) × (after : List (List ℕ)) × (names ≡ before ++ name ∷ after)
    × ((texts : List Text) → AreTold contents before texts → (entries : List Entry) × AreAllEntries before texts entries)

-- the first line in error of the first list that is not read, that its file can't be read, or memory
abbrev pub IsUnchecked : (List ℕ → Option Text) → List (List ℕ) → CommandError → Type 0
IsUnchecked contents names (error.Line name number e) = StopsAtEntries contents names name.now
    × ((text : Text) → contents name.now ≡ Some text → IsFirstFaultyLine name.now text.bytes number e)
IsUnchecked contents names (error.Input name why) = StopsAtEntries contents names name.now
IsUnchecked contents names error.NoMemory = Unit {0}
IsUnchecked contents names e = ⊥

-- ---- what private functions promise
-- why the file of this name is not read
abbrev pub IsFileFault : Option Text → List ℕ → CommandError → Type 0
IsFileFault contents name (error.Argument text e) = ⊥
IsFileFault contents name (error.Line file number e) =
    (file.now ≡ name) × ((text : Text) → contents ≡ Some text → IsFirstFaultyLine name text.bytes number e)
IsFileFault contents name (error.Input file why) = file.now ≡ name
IsFileFault contents name error.NoMemory = Unit {0}
IsFileFault contents name error.Output = ⊥
IsFileFault contents name (error.File file e) = ⊥

-- the entries of a file come behind those before
abbrev pub AddsFileEntries : Option Text → List ℕ → List Entry → List Entry → Result (Unit {0}) CommandError → Type 0
AddsFileEntries contents name old new (Ok _) = (text : Text) → contents ≡ Some text → HasAdded name old (lines_of text.bytes) new
AddsFileEntries contents name old new (Err e) = IsFileFault contents name e

-- these are the entries of files
abbrev pub AreToldEntries : (List ℕ → Option Text) → List (List ℕ) → List Entry → Type 0
AreToldEntries contents names entries = (texts : List Text) → AreTold contents names texts → AreAllEntries names texts entries
