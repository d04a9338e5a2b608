-- What functions that pick lines of a file promise.
use Rattle.std.specs.Prelude.{◌≡◌, ◌⊎◌, ℕ, ◌+◌, ◌<◌, ◌≤◌, Bool, true, false, List, [], ◌∷◌, ◌++◌, length, decimal, Option, Some, None, IfSome, Result, Ok, Err}
use Rattle.std.specs.Borrow.{Bor}
use Rattle.std.specs.List.{flat_map}
use Rattle.cidr_io.specs.Writing.{State, Part, Whole, Writes, Answered}
use Rattle.cidr_io.specs.declared.sink.OutputFailed.{OutputFailed}
use Rattle.cidr_io.specs.Collecting.{Collects}
use Rattle.netset_commands.specs.Matching.{ArePicked, AreMatched, IsEndedBy, IsEndedIn, IsErrorBy, IsMatch, IsMatchOfEach, file_label, line_written}
use Rattle.cidr_lists.specs.Lines.{IsBadBehind, last_line}
use Rattle.cidr_lists.specs.Lists.{IsTooLong, Text}
use Rattle.cidr_lists.specs.Printing.{line}
use Rattle.netset_commands.specs.Program.{by_output}
use Rattle.netset_commands.specs.Streaming.{IsCutShort}
use Rattle.netset_commands.specs.declared.output.answers.Verdict.{Verdict}
use Rattle.netset_commands.specs.declared.output.answers.Verdict.TheVariants.{Yes, No}
use Rattle.netset_commands.specs.declared.errors.CommandError.{CommandError}
use Rattle.netset_commands.specs.declared.errors.CommandError.TheVariants as error
use Rattle.cidr_lists.specs.declared.errors.LineError.{LineError}
use Rattle.cidr_lists.specs.declared.errors.LineError.TheVariants.{TooLong}
use Rattle.netset_commands.specs.declared.commands.matching.Gathered.{Gathered}
use Rattle.netset_commands.specs.declared.commands.matching.Written.{Written}
use Rattle.netset_commands.specs.declared.commands.matching.Written.TheVariants as written

-- the lines that a part up to a line feed is, or up to the end
abbrev pub lines_of_part : List ℕ → Bool → List (List ℕ)
lines_of_part part true = part ∷ []
lines_of_part part false = last_line part

-- the file is not read further
abbrev pub IsNotReadFurther : List ℕ → CommandError → Type 0
IsNotReadFurther file (error.Argument text e) = ⊥
IsNotReadFurther file (error.Line name number e) = ⊥
IsNotReadFurther file (error.Input name why) = name.now ≡ file
IsNotReadFurther file error.NoMemory = Unit {0}
IsNotReadFurther file error.Output = ⊥
IsNotReadFurther file (error.File name e) = ⊥

-- what stands in front of what is written of a file, if a name does
abbrev pub label_of : Option (Bor (List ℕ)) → List ℕ
label_of None = []
label_of (Some name) = file_label name.now

-- a line is in error, and nothing is written; or the output failed at a line that is picked, or at the header
abbrev pub IsLost : Bool → (List ℕ → Result Bool LineError → Type 0) → List ℕ → Written → List ℕ → ℕ → List ℕ → State → State → List ℕ → List ℕ → CommandError → Type 0
IsLost headed PicksLine label what file number part old new block rest (error.Argument text e) = ⊥
IsLost headed PicksLine label what file number part old new block rest (error.Line name n e) =
    (name.now ≡ file) × (n ≡ number) × IsBadBehind headed (IsErrorBy PicksLine) [] part e × (new ≡ old) × (rest ≡ block)
IsLost headed PicksLine label what file number part old new block rest (error.Input name why) = ⊥
IsLost headed PicksLine label what file number part old new block rest error.NoMemory = ⊥
IsLost headed PicksLine label what file number part old new block rest (error.File name e) = ⊥
IsLost headed PicksLine label what file number part old new block rest error.Output =
    (counted : List (List ℕ)) × ArePicked headed PicksLine (part ∷ []) (part ∷ [], counted) × Part old new (block ++ line_written label what part)

-- a header is gathered and not counted; or it is too long, or the output failed at it
abbrev pub TakesHeader : List ℕ → Written → List ℕ → List ℕ → State → State → Gathered → Gathered → Result (Unit {0}) CommandError → Type 0
TakesHeader label what file header old new before after (Ok _) = ¬ (IsTooLong header) × (after.count ≡ before.count)
    × Collects old new before.block after.block (line_written label what header) (Ok tt)
TakesHeader label what file header old new before after (Err (error.Line name n e)) =
    (name.now ≡ file) × (n ≡ 1) × (e ≡ TooLong) × IsTooLong header × (new ≡ old) × (after.block ≡ before.block)
TakesHeader label what file header old new before after (Err error.Output) =
    ¬ (IsTooLong header) × Part old new (before.block ++ line_written label what header)
TakesHeader label what file header old new before after (Err e) = ⊥

-- the line of a part is gathered, if it is one and is picked, or is a header
abbrev pub GathersPart : Bool → (List ℕ → Result Bool LineError → Type 0) → List ℕ → Written → List ℕ → ℕ → List ℕ → Bool → State → State → Gathered → Gathered
    → Result (Unit {0}) CommandError → Type 0
GathersPart headed PicksLine label what file number part more old new before after (Ok _) = (picked : List (List ℕ) × List (List ℕ))
    × ArePicked headed PicksLine (lines_of_part part more) picked × (after.count ≡ before.count + length picked.1) × (length picked.1 ≤ 1)
    × Collects old new before.block after.block (flat_map (line_written label what) picked.0) (Ok tt)
GathersPart headed PicksLine label what file number part more old new before after (Err e) =
    (lines_of_part part more ≡ part ∷ []) × IsLost headed PicksLine label what file number part old new before.block after.block e

-- what is written behind the lines
abbrev pub rest_written : List ℕ → Written → ℕ → List ℕ
rest_written label written.Lines count = []
rest_written label written.Count count = label ++ line (decimal count)
rest_written label written.Nothing count = []

-- yes if a line was counted
abbrev pub IsCounted : ℕ → Verdict → Type 0
IsCounted count Yes = 0 < count
IsCounted count No = count ≡ 0

-- all that was gathered is written
abbrev pub Finishes : List ℕ → Written → State → State → Gathered → Result Verdict CommandError → Type 0
Finishes label what old new gathered r = (verdict : Verdict) × (w : Result (Unit {0}) OutputFailed) × IsCounted gathered.count verdict
    × Writes old new (gathered.block ++ rest_written label what gathered.count) w × (r ≡ by_output verdict w)

-- the error for which no more lines are read, or that the output has failed at what is not yet written
abbrev pub ended_by : CommandError → Result (Unit {0}) OutputFailed → CommandError
ended_by e (Ok _) = e
ended_by e (Err _) = error.Output

-- what is not yet written is written, and the run ends with an error
abbrev pub Stops : CommandError → State → State → List ℕ → Result Verdict CommandError → Type 0
Stops error.Output old new block r = (new ≡ old) × (r ≡ Err error.Output)
Stops e old new block r = (w : Result (Unit {0}) OutputFailed) × Writes old new block w × (r ≡ Err (ended_by e w))

-- no part is behind this one, or -q needs no more
abbrev pub IsDone : Written → Bool → ℕ → Type 0
IsDone what more count = (more ≡ false) ⊎ ((what ≡ written.Nothing) × (0 < count))

-- the first line that is too long of some lines and this one, which has this number
abbrev pub NotesLong : ℕ → List ℕ → Option ℕ → Option ℕ → Type 0
NotesLong number line None now = (IsTooLong line × (now ≡ Some number)) ⊎ (¬ (IsTooLong line) × (now ≡ None))
NotesLong number line (Some n) now = now ≡ Some n

-- the answer of a file, or the first of its lines that is too long, if one is
abbrev pub told_behind : Bor (List ℕ) → Option ℕ → Result Verdict CommandError → Result Verdict CommandError
told_behind file None r = r
told_behind file (Some n) (Ok verdict) = Err (error.Line file n TooLong)
told_behind file (Some n) (Err e) = Err e

-- what becomes of a file that is read line by line, of which these bytes are known
abbrev pub Streams : Bool → (List ℕ → Result Bool LineError → Type 0) → List ℕ → Written → List ℕ → Option (List ℕ) → State → State → Result Verdict CommandError → Type 0
Streams headed PicksLine label what file known old new r =
    ((answer : List ℕ) × (verdict : Verdict) × (w : Result (Unit {0}) OutputFailed)
    × IfSome known (λ text. IsMatch headed PicksLine label what text None answer verdict) × Answered old new answer w × (r ≡ by_output verdict w))
    ⊎ IsCutShort (λ answer e. IfSome known (λ text. IsEndedBy headed PicksLine label what text answer e)) file old new r

-- the same of a file that is opened first: nothing is written of one that can't be opened
abbrev pub StreamsFile : Bool → (List ℕ → Result Bool LineError → Type 0) → List ℕ → Written → List ℕ → Option Text → State → State → Result Verdict CommandError → Type 0
StreamsFile headed PicksLine label what file contents old new r =
    ((new ≡ old) × (e : CommandError) × (r ≡ Err e) × IsNotReadFurther file e)
    ⊎ ((known : Option (List ℕ)) × ((text : Text) → contents ≡ Some text → known ≡ Some text.bytes) × Streams headed PicksLine label what file known old new r)

-- some files were read to their ends, and all of this was written
abbrev pub AreStreamed : (List ℕ → Option Text) → Bool → (List ℕ → Result Bool LineError → Type 0) → Written → List (List ℕ) → State → State → Verdict → Type 0
AreStreamed contents headed PicksLine what files old new verdict =
    (answer : List ℕ) × AreMatched contents headed PicksLine what files answer verdict × Whole old new answer

-- what becomes of files that are read one after another
abbrev pub StreamsEach : (List ℕ → Option Text) → Bool → (List ℕ → Result Bool LineError → Type 0) → Written → List (List ℕ) → State → State → Result Verdict CommandError → Type 0
StreamsEach contents headed PicksLine what files old new r =
    ((answer : List ℕ) × (verdict : Verdict) × (w : Result (Unit {0}) OutputFailed)
    × IsMatchOfEach contents headed PicksLine what files answer verdict × Answered old new answer w × (r ≡ by_output verdict w))
    ⊎ ((before after : List (List ℕ)) × (file : List ℕ) × (files ≡ before ++ file ∷ after)
    × IsCutShort (IsEndedIn contents headed PicksLine what before file) file old new r)
