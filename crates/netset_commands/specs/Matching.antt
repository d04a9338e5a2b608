-- The lines of a file of which a field lies in a list, or that have an address of it.
use Rattle.std.specs.Prelude.{◌≡◌, ◌≢◌, ◌⊎◌, ℕ, ◌≤◌, Bool, true, false, if◌then◌else◌, List, [], ◌∷◌, ◌++◌, length, codes, decimal, Option, Some, None, Result, Ok, Err, ◌+◌}
use Rattle.std.specs.Bool.{Decides}
use Rattle.std.specs.List.{AllByRecursion, flat_map, items_where_true, list_any}
use Rattle.std.specs.Str.{bytes_eq}
use Rattle.cidr.specs.declared.cidr.combined.IpCidr.{IpCidr}
use Rattle.cidr.specs.declared.family.Family.{Family}
use Rattle.netset_commands.specs.Combining.{Turned}
use Rattle.cidr_lists.specs.Printing.{line}
use Rattle.netset_commands.specs.Streaming.{IsCutBehind, ReadTo}
use Rattle.netset_commands.specs.declared.output.answers.Verdict.{Verdict}
use Rattle.netset_commands.specs.declared.output.answers.Verdict.TheVariants.{Yes, No}
use Rattle.netset_commands.specs.declared.errors.CommandError.{CommandError}
use Rattle.netset_commands.specs.declared.errors.CommandError.TheVariants as error
use Rattle.cidr_lists.specs.declared.columns.Column.{Column}
use Rattle.cidr_lists.specs.declared.errors.LineError.{LineError}
use Rattle.cidr_lists.specs.declared.errors.LineError.TheVariants.{TooLong}
use Rattle.netset_commands.specs.declared.commands.matching.Written.{Written}
use Rattle.netset_commands.specs.declared.commands.matching.Written.TheVariants as written
use Rattle.cidr_lists.specs.Fields.{FieldSays, IsBadField}
use Rattle.cidr_lists.specs.Within.{LiesIn, HasOneIn}
use Rattle.cidr_lists.specs.Lines.{AllBehind, IsBadBehind, behind_header, lines_in}
use Rattle.cidr_lists.specs.Lists.{IsTooLong, Text}

-- ---- options
-- the word is this one
abbrev pub is_word : List ℕ → List ℕ → Bool
is_word name word = bytes_eq word name

-- the option is given
abbrev pub has : List ℕ → List (List ℕ) → Bool
has name options = list_any (is_word name) options

-- what is written of the lines: nothing with -q, else their number with -c, else the lines
abbrev pub written_of : List (List ℕ) → Written
written_of options = if has (codes "-q") options then written.Nothing
    else if has (codes "-c") options then written.Count else written.Lines

-- whether a line is picked: if what the field of the column says lies in the list, or with -v if it does not; or its error
abbrev pub PicksByField : Column → (Family → List Bool → Type 0) → Bool → List ℕ → Result Bool LineError → Type 0
PicksByField column IsIn inverted line (Ok picked) =
    (said : Option IpCidr) × FieldSays column line said × Decides picked (Turned inverted (LiesIn IsIn said))
PicksByField column IsIn inverted line (Err e) = IsBadField column line e

-- whether a line is picked: with --any if it has an address of the list, or with -v if it has none, and no such line is in error;
-- and without by its field
abbrev pub PicksBy : Bool → Column → (Family → List Bool → Type 0) → Bool → List ℕ → Result Bool LineError → Type 0
PicksBy true column IsIn inverted line (Ok picked) = Decides picked (Turned inverted (HasOneIn IsIn line))
PicksBy true column IsIn inverted line (Err e) = ⊥
PicksBy false column IsIn inverted line r = PicksByField column IsIn inverted line r

-- what becomes of a line that is too long: with --any it is passed over, and else it is in error
abbrev pub passed_over : Bool → Result Bool LineError
passed_over true = Ok false
passed_over false = Err TooLong

-- the same of any line
abbrev pub Picks : Bool → Column → (Family → List Bool → Type 0) → Bool → List ℕ → Result Bool LineError → Type 0
Picks anywhere column IsIn inverted line r =
    ((r ≡ passed_over anywhere) × IsTooLong line) ⊎ (¬ (IsTooLong line) × PicksBy anywhere column IsIn inverted line r)

-- the line is in error, and this is its error
abbrev pub IsErrorBy : (List ℕ → Result Bool LineError → Type 0) → List ℕ → LineError → Type 0
IsErrorBy PicksLine line e = PicksLine line (Err e)

-- a header is written whatever it says, and may not be too long
abbrev pub IsHeader : List ℕ → Bool → Type 0
IsHeader line mark = ¬ (IsTooLong line) × (mark ≡ true)

-- the lines that are written, in their order: those that are picked, and in front of them the header, if the first is one; and
-- the former, which alone are counted
abbrev pub ArePicked : Bool → (List ℕ → Result Bool LineError → Type 0) → List (List ℕ) → List (List ℕ) × List (List ℕ) → Type 0
ArePicked headed PicksLine lines picked = (marks : List Bool) × AllBehind headed IsHeader (λ line mark. PicksLine line (Ok mark)) lines marks
    × (picked.0 ≡ items_where_true marks lines) × (picked.1 ≡ behind_header headed picked.0)

-- ---- what is written
-- what stands in front of a line of a file that is not the only one: its name and a colon
abbrev pub file_label : List ℕ → List ℕ
file_label name = name ++ codes ":"

-- of a picked line, while lines are read; the label stands in front
abbrev pub line_written : List ℕ → Written → List ℕ → List ℕ
line_written label written.Lines l = label ++ line l
line_written label what l = []

-- of all lines that were picked
abbrev pub all_written : List ℕ → Written → List (List ℕ) × List (List ℕ) → List ℕ
all_written label written.Lines picked = flat_map (line_written label written.Lines) picked.0
all_written label written.Count picked = label ++ line (decimal (length picked.1))
all_written label written.Nothing picked = []

-- no line or file is left, or -q needs no more
abbrev pub IsEnough : Written → List (List ℕ) → Verdict → Type 0
IsEnough what left verdict = (left ≡ []) ⊎ ((what ≡ written.Nothing) × (verdict ≡ Yes))

-- with -q nothing was picked of these lines
abbrev pub NeedsMore : Written → List (List ℕ) → Type 0
NeedsMore what picked = what ≡ written.Nothing → picked ≡ []

-- and the first line that is picked is the last one that is read
abbrev pub StopsAtPicked : Bool → (List ℕ → Result Bool LineError → Type 0) → Written → List (List ℕ) → Type 0
StopsAtPicked headed PicksLine what read = (before last : List (List ℕ)) × (read ≡ before ++ last) × (length last ≤ 1)
    × (picked : List (List ℕ) × List (List ℕ)) × ArePicked headed PicksLine before picked × NeedsMore what picked.1

-- yes if a line was picked
abbrev pub ArePickedBy : List (List ℕ) → Verdict → Type 0
ArePickedBy picked Yes = picked ≢ []
ArePickedBy picked No = picked ≡ []

-- the first of these lines that is too long, by its number from 1 on, if one is
abbrev pub IsFirstLong : List (List ℕ) → Option ℕ → Type 0
IsFirstLong lines None = AllByRecursion (λ line. ¬ (IsTooLong line)) lines
IsFirstLong lines (Some n) = (before : List (List ℕ)) × (line : List ℕ) × (after : List (List ℕ)) × (lines ≡ before ++ line ∷ after)
    × (n ≡ length before + 1) × IsTooLong line × AllByRecursion (λ line. ¬ (IsTooLong line)) before

-- what is written of a text, the first of the lines that were read that is too long, if one is, and whether a line was picked
abbrev pub IsMatch : Bool → (List ℕ → Result Bool LineError → Type 0) → List ℕ → Written → List ℕ → Option ℕ → List ℕ → Verdict → Type 0
IsMatch headed PicksLine label what text long answer verdict = (read left : List (List ℕ)) × (picked : List (List ℕ) × List (List ℕ))
    × ReadTo (ArePicked headed PicksLine) (lines_in text) read left picked × IsFirstLong read long
    × IsEnough what left verdict × (answer ≡ all_written label what picked) × ArePickedBy picked.1 verdict × StopsAtPicked headed PicksLine what read

-- the text was not read to its end, for this reason, and this belongs to the lines that were picked
abbrev pub IsCutAt : Bool → (List ℕ → Result Bool LineError → Type 0) → List ℕ → Written → List ℕ → List ℕ → CommandError → Type 0
IsCutAt headed PicksLine label what text answer e = (picked : List (List ℕ) × List (List ℕ))
    × IsCutBehind (ArePicked headed PicksLine) (IsBadBehind headed (IsErrorBy PicksLine)) (lines_in text) picked e
    × (answer ≡ flat_map (line_written label what) picked.0) × NeedsMore what picked.1

-- the error is that this line is too long, or that the output has failed
abbrev pub IsLongOrLost : ℕ → CommandError → Type 0
IsLongOrLost n (error.Line name number e) = (number ≡ n) × (e ≡ TooLong)
IsLongOrLost n error.Output = Unit {0}
IsLongOrLost n e = ⊥

-- the text was answered, but for lines that are too long, and the first of these is the error
abbrev pub IsMatchBut : Bool → (List ℕ → Result Bool LineError → Type 0) → List ℕ → Written → List ℕ → List ℕ → CommandError → Type 0
IsMatchBut headed PicksLine label what text answer e =
    (n : ℕ) × (verdict : Verdict) × IsMatch headed PicksLine label what text (Some n) answer verdict × IsLongOrLost n e

-- either
abbrev pub IsEndedBy : Bool → (List ℕ → Result Bool LineError → Type 0) → List ℕ → Written → List ℕ → List ℕ → CommandError → Type 0
IsEndedBy headed PicksLine label what text answer e = IsCutAt headed PicksLine label what text answer e ⊎ IsMatchBut headed PicksLine label what text answer e

-- ---- several files
-- yes if one of the two is
abbrev pub either : Verdict → Verdict → Verdict
either Yes other = Yes
either No other = other

-- what is written of some files, one after another, each with its name in front, and whether a line of one was picked; no
-- line that was read is too long
abbrev pub AreMatched : (List ℕ → Option Text) → Bool → (List ℕ → Result Bool LineError → Type 0) → Written → List (List ℕ) → List ℕ → Verdict → Type 0
AreMatched contents headed PicksLine what [] answer verdict = (answer ≡ []) × (verdict ≡ No)
AreMatched contents headed PicksLine what (file ∷ files) answer verdict = (first rest : List ℕ) × (one other : Verdict)
    × ((text : Text) → contents file ≡ Some text → IsMatch headed PicksLine (file_label file) what text.bytes None first one)
    × AreMatched contents headed PicksLine what files rest other × (answer ≡ first ++ rest) × (verdict ≡ either one other)

-- the same of as many of the files as are needed
abbrev pub IsMatchOfEach : (List ℕ → Option Text) → Bool → (List ℕ → Result Bool LineError → Type 0) → Written → List (List ℕ) → List ℕ → Verdict → Type 0
IsMatchOfEach contents headed PicksLine what files answer verdict = (read left : List (List ℕ))
    × (files ≡ read ++ left) × AreMatched contents headed PicksLine what read answer verdict × IsEnough what left verdict

-- behind these files, in which -q has found no line, one was not read to its end, for this reason, or has lines that are too long,
-- or the output failed at what is written of it; and this belongs to all of them
abbrev pub IsEndedIn : (List ℕ → Option Text) → Bool → (List ℕ → Result Bool LineError → Type 0) → Written → List (List ℕ) → List ℕ → List ℕ → CommandError → Type 0
IsEndedIn contents headed PicksLine what before file answer e = (first rest : List ℕ) × (verdict : Verdict)
    × AreMatched contents headed PicksLine what before first verdict × (answer ≡ first ++ rest) × (what ≡ written.Nothing → verdict ≡ No)
    × ((text : Text) → contents file ≡ Some text → IsEndedBy headed PicksLine (file_label file) what text.bytes rest e
    ⊎ ((one : Verdict) × IsMatch headed PicksLine (file_label file) what text.bytes None rest one × (e ≡ error.Output)))
