-- What functions promise that look the addresses of a file up and tell them, by themselves or with their lines.
use Rattle.std.specs.Prelude.{◌≡◌, ◌⊎◌, ℕ, ◌+◌, ◌<◌, Bool, List, [], ◌∷◌, ◌++◌, Option, Some, is_some, option_map, take, IfSome, Result, Ok, Err}
use Rattle.std.specs.List.{flat_map}
use Rattle.cidr.specs.either.IpAddress.{address_family, plain_bits}
use Rattle.cidr.specs.declared.addr.ip.IpAddr.{IpAddr}
use Rattle.cidr.specs.declared.family.Family.{Family}
use Rattle.cidr_io.specs.Collecting.{Collects}
use Rattle.cidr_io.specs.Writing.{State, Part, Answered}
use Rattle.cidr_io.specs.declared.sink.OutputFailed.{OutputFailed}
use Rattle.cidr_table.specs.model.Prefixes.{IsLookedUp}
use Rattle.cidr_lists.specs.Lines.{IsBadBehind, lines_in}
use Rattle.cidr_lists.specs.Lists.{Text}
use Rattle.cidr_lists.specs.LookUps.{IsBadAsked, LineTells, LinesTell, LookUp, is_found, lines_by, look_object, printed_found, printed_row, told_line}
use Rattle.cidr_lists.specs.Printing.{line}
use Rattle.cidr_lists.specs.declared.fields.Asked.{Asked}
use Rattle.cidr_lists.specs.declared.objects.Telling.{Telling}
use Rattle.cidr_lists.specs.declared.objects.Telling.TheVariants.{Kept}
use Rattle.netset_commands.specs.Gathering.{IsNotReadFurther, lines_of_part}
use Rattle.netset_commands.specs.Look.{HeadedTell, verdict_of}
use Rattle.netset_commands.specs.LookUps.{AskLooks}
use Rattle.netset_commands.specs.Program.{by_output}
use Rattle.netset_commands.specs.Streaming.{IsCut, IsCutBehind, IsCutShort}
use Rattle.netset_commands.specs.declared.errors.CommandError.{CommandError}
use Rattle.netset_commands.specs.declared.errors.CommandError.TheVariants as error
use Rattle.netset_commands.specs.declared.errors.Reason.TheVariants.{Unknown}
use Rattle.netset_commands.specs.declared.output.answers.Verdict.{Verdict}

-- what is read of a text line by line, each of which is told, was looked up and written: to its end, or where it was not read to
-- its end, what belongs to the lines that were read
abbrev pub TellsText : Telling → Asked → (Family → List (List Bool × List ℕ)) → Option (List ℕ) → List ℕ → State → State → Result Verdict CommandError → Type 0
TellsText telling place table contents file old new r = ((answer : List ℕ) × (found : Bool) × (w : Result (Unit {0}) OutputFailed)
    × (r ≡ by_output (verdict_of found) w) × Answered old new answer w × IfSome contents (λ text. LinesTell telling place table (lines_in text) (answer, found)))
    ⊎ IsCutShort (λ answer e. IfSome contents (λ text. (found : Bool)
    × IsCut (LinesTell telling place table) (IsBadAsked place) (lines_in text) (answer, found) e)) file old new r

-- the same of what is left of a file, of which the first line is a header or not
abbrev pub TellsLeft : Bool → Telling → Asked → (Family → List (List Bool × List ℕ)) → Option (List ℕ) → List ℕ → State → State → Result Verdict CommandError → Type 0
TellsLeft headed telling place table left file old new r = ((answer : List ℕ) × (found : Bool) × (w : Result (Unit {0}) OutputFailed)
    × (r ≡ by_output (verdict_of found) w) × Answered old new answer w
    × IfSome left (λ text. HeadedTell headed telling place table (lines_by telling text) (answer, found)))
    ⊎ IsCutShort (λ answer e. IfSome left (λ text. (found : Bool)
    × IsCutBehind (HeadedTell headed telling place table) (IsBadBehind headed (IsBadAsked place)) (lines_by telling text) (answer, found) e)) file old new r

-- the same of a file that is opened first: nothing is written of one that can't be opened
abbrev pub TellsFile : Bool → Telling → Asked → (Family → List (List Bool × List ℕ)) → Option Text → List ℕ → State → State → Result Verdict CommandError → Type 0
TellsFile headed telling place table contents file old new r = ((new ≡ old) × (e : CommandError) × (r ≡ Err e) × IsNotReadFurther file e)
    ⊎ ((left : Option (List ℕ)) × ((text : Text) → contents ≡ Some text → left ≡ Some text.bytes) × TellsLeft headed telling place table left file old new r)

-- what is written of the part up to a line feed or to the end, if it is a line and a header
abbrev pub header_text : Telling → List ℕ → Bool → List ℕ
header_text Kept part more = flat_map line (lines_of_part part more)
header_text telling part more = []

-- an error behind a header, by an error of what is left: the number of a line counts the header too, if there is such a number
abbrev pub IsBehindHeader : CommandError → CommandError → Type 0
IsBehindHeader (error.Line name number e) new = ((number < 18446744073709551615) × (new ≡ error.Line name (number + 1) e))
    ⊎ ((number ≡ 18446744073709551615) × (new ≡ error.Input name Unknown))
IsBehindHeader e new = new ≡ e

-- the length of the longest network of rows that an address is in, and its value
abbrev pub IsRowAmong : List (List Bool × List ℕ) → List Bool → Option (ℕ × List ℕ) → Type 0
IsRowAmong rows address row =
    IsLookedUp (λ (p : List Bool). p) address rows (option_map (λ (one : ℕ × List ℕ). (take one.0 address, one.1)) row)

-- the same of a table
abbrev pub IsRowOf : (Family → List (List Bool × List ℕ)) → IpAddr → Option (ℕ × List ℕ) → Type 0
IsRowOf table address row = IsRowAmong (table (address_family address)) (plain_bits address) row

-- the network of an address, as it is printed, and its value
abbrev pub IsNetworkOf : (Family → List (List Bool × List ℕ)) → IpAddr → Option (List ℕ × List ℕ) → Type 0
IsNetworkOf table address printed = (row : Option (List Bool × List ℕ))
    × IsLookedUp (λ (p : List Bool). p) (plain_bits address) (table (address_family address)) row
    × (printed ≡ option_map (printed_row (address_family address)) row)

-- the same of the address that a line has, if it has one
abbrev pub HasNetwork : (Family → List (List Bool × List ℕ)) → Option IpAddr → Option (List ℕ × List ℕ) → Type 0
HasNetwork table asked printed = (look : Option LookUp) × AskLooks table asked look × (printed ≡ printed_found look)

-- a line was looked up and collected, with what is added to it, or a beginning of what is collected was written
abbrev pub KeepsLine : Asked → (Family → List (List Bool × List ℕ)) → List ℕ → Option IpAddr → State → State → List ℕ → List ℕ → Result Bool OutputFailed → Type 0
KeepsLine place table line asked old new block rest (Ok found) = (look : Option LookUp) × AskLooks table asked look
    × Collects old new block rest (told_line Kept place line look) (Ok tt) × (found ≡ is_found look)
KeepsLine place table line asked old new block rest (Err e) = (look : Option LookUp) × AskLooks table asked look
    × Part old new (block ++ told_line Kept place line look)

-- this is the object of an address, which a network has or not
abbrev pub IsObjectOf : (Family → List (List Bool × List ℕ)) → IpAddr → List ℕ → Bool → Type 0
IsObjectOf table address text found = (row : Option (List Bool × List ℕ))
    × IsLookedUp (λ (p : List Bool). p) (plain_bits address) (table (address_family address)) row
    × (text ≡ look_object (Some (record { address = address; found = row }))) × (found ≡ is_some row)

-- an address was looked up, and what is told of it was collected, or a beginning of what is collected was written; or there was no memory
-- for it
abbrev pub TellsBy : (Option LookUp → List ℕ) → (Family → List (List Bool × List ℕ)) → Option IpAddr → State → State → List ℕ → List ℕ → Result Bool CommandError → Type 0
TellsBy told table asked old new block rest (Ok found) = (look : Option LookUp) × AskLooks table asked look
    × Collects old new block rest (told look) (Ok tt) × (found ≡ is_found look)
TellsBy told table asked old new block rest (Err error.Output) = (look : Option LookUp) × AskLooks table asked look × Part old new (block ++ told look)
TellsBy told table asked old new block rest (Err error.NoMemory) = (new ≡ old) × (rest ≡ block)
TellsBy told table asked old new block rest (Err e) = ⊥

-- the same of the line that a part up to a line feed is, or up to the end; or it is in error, and nothing is collected
abbrev pub TellsPart : Telling → Asked → (Family → List (List Bool × List ℕ)) → List ℕ → ℕ → List ℕ → Bool → State → State → List ℕ → List ℕ → Result Bool CommandError → Type 0
TellsPart telling place table file number part more old new block rest (Ok found) = (text : List ℕ)
    × LinesTell telling place table (lines_of_part part more) (text, found) × Collects old new block rest text (Ok tt)
TellsPart telling place table file number part more old new block rest (Err (error.Line name n e)) = (lines_of_part part more ≡ part ∷ [])
    × (name.now ≡ file) × (n ≡ number) × IsBadAsked place part e × (new ≡ old) × (rest ≡ block)
TellsPart telling place table file number part more old new block rest (Err error.Output) = (lines_of_part part more ≡ part ∷ [])
    × (told : List ℕ × Bool) × LineTells telling place table part told × Part old new (block ++ told.0)
TellsPart telling place table file number part more old new block rest (Err error.NoMemory) = (lines_of_part part more ≡ part ∷ [])
    × (new ≡ old) × (rest ≡ block)
TellsPart telling place table file number part more old new block rest (Err e) = ⊥
