-- The lines of lists that have a network or a host, each with its file and its number: what `check` looks at.
use Rattle.std.specs.Prelude.{◌≡◌, ℕ, List, ◌++◌, Option, option_to_list, Result, Ok, Err}
use Rattle.std.specs.List.{AllZip}
use Rattle.cidr_lists.specs.Lists.{lines_of}
use Rattle.cidr_lists.specs.declared.entries.Entry.{Entry}
use Rattle.netset_commands.specs.declared.errors.ListReadError.{ListReadError}
use Rattle.netset_commands.specs.declared.errors.ListReadError.TheVariants.{Line, Input, NoMemory}
use Rattle.cidr_lists.specs.Entries.{LineHas, AreEntries, HasNoHost, IsFirstFaultyLine}

-- ---- what private functions promise
-- an entry is another one in this file
abbrev pub IsCopyIn : List ℕ → Entry → Entry → Type 0
IsCopyIn file entry copy = (copy.place.file.now ≡ file) × (copy.place.number ≡ entry.place.number) × (copy.host ≡ entry.host)
    × (copy.is_canonical ≡ entry.is_canonical)

-- entries come behind those before as entries of this file
abbrev pub CopiesEntries : List ℕ → List Entry → List Entry → List Entry → Type 0
CopiesEntries file kept old new = (copies : List Entry) × AllZip (IsCopyIn file) kept copies × (new ≡ old ++ copies)

-- the error is that of this line, or the line is not known to have one
abbrev pub IsLineFault : List ℕ → ℕ → ListReadError → Type 0
IsLineFault line number (Line n e) = (n ≡ number) × HasNoHost line e
IsLineFault line number Input = Unit {0}
IsLineFault line number NoMemory = Unit {0}

-- the entry that a line has, if it has one, comes behind those before
abbrev pub AddsEntry : List ℕ → ℕ → List ℕ → List Entry → List Entry → Result (Unit {0}) ListReadError → Type 0
AddsEntry file number line old new (Ok _) = (one : Option Entry) × LineHas file number line one × (new ≡ old ++ option_to_list one)
AddsEntry file number line old new (Err e) = IsLineFault line number e

-- the entries of the first lines of a file come behind those before
abbrev pub HasAdded : List ℕ → List Entry → List (List ℕ) → List Entry → Type 0
HasAdded file old lines new = (entries : List Entry) × AreEntries file 1 lines entries × (new ≡ old ++ entries)

-- the first line in error, or nothing of the text where reading has stopped
abbrev pub IsTextFault : List ℕ → List ℕ → ListReadError → Type 0
IsTextFault file text (Line number e) = IsFirstFaultyLine file text number e
IsTextFault file text Input = Unit {0}
IsTextFault file text NoMemory = Unit {0}

-- the entries of a text come behind those before
abbrev pub AddsEntries : List ℕ → List ℕ → List Entry → List Entry → Result (Unit {0}) ListReadError → Type 0
AddsEntries file text old new (Ok _) = HasAdded file old (lines_of text) new
AddsEntries file text old new (Err e) = IsTextFault file text e
